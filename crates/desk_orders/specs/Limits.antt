-- The limits of orders.
use Rattle.std.specs.Prelude.{ℕ}

-- the maximum length of a line of the desk, in bytes. Own choice
abbrev pub max_line : ℕ
max_line = 200

-- the maximum number of a channel: 30 is all channels of a device (EnOcean Equipment Profiles 2.6, "D2-01", "I/O
-- channel")
abbrev pub max_channel : ℕ
max_channel = 30

-- the maximum offset from the base ID (EnOcean Serial Protocol 3, "CO_WR_IDBASE")
abbrev pub max_offset : ℕ
max_offset = 127

-- the maximum value, in percent (EnOcean Equipment Profiles 2.6, "D2-01", "D2-05-00" and "A5-38-08")
abbrev pub max_percent : ℕ
max_percent = 100

-- the maximum time of a ramp, in seconds (EnOcean Equipment Profiles 2.6, "A5-38-08", command 2)
abbrev pub max_ramp : ℕ
max_ramp = 255

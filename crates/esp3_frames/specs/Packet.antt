-- The packets of a serial line, and their bytes (EnOcean Serial Protocol 3, "Packet structure").
use Rattle.std.specs.Prelude.{◌≡◌, ℕ, ◌+◌, ◌/◌, ◌%◌, ◌<◌, ◌≤◌, List, [], ◌∷◌, ◌++◌, length, Bool, ◌&&◌, nat_lt}
use Rattle.esp3_frames.specs.Check.{check}

-- the maximum length of the data, in bytes: its length field has two bytes
abbrev pub max_data : ℕ
max_data = 65535

-- the maximum length of the optional data, in bytes: its length field has one byte
abbrev pub max_optional_data : ℕ
max_optional_data = 255

-- the maximum length of a packet: six bytes up to the CRC of the header, the data, the optional data and their CRC
abbrev pub max_packet : ℕ
max_packet = 6 + max_data + max_optional_data + 1

-- the lengths that a header may announce: that of the data in two bytes, the high byte first, and that of the optional
-- data in one. Own choice: a packet is not empty
abbrev pub announces_data : (high low opt_len : ℕ) → Bool
announces_data h l o = (nat_lt h 256 && nat_lt l 256) && (nat_lt o 256 && nat_lt 0 (h + l + o))

-- a packet: its type, data and optional data
pub record Packet : Type 0 where
  pub kind : ℕ
  pub body : List ℕ
  pub opt : List ℕ

-- the length of the data in two bytes, the high byte first; the length of the optional data; the type
abbrev pub header : Packet → List ℕ
header p = (length p.body / 256) ∷ (length p.body % 256) ∷ length p.opt ∷ p.kind ∷ []

-- the sync byte, the header and its CRC; the data, the optional data and their CRC
abbrev pub spelling : Packet → List ℕ
spelling p = (0x55 ∷ header p ++ check (header p) ∷ []) ++ (p.body ++ p.opt ++ check (p.body ++ p.opt) ∷ [])

-- the bytes w are exactly the packet p. Own choice: a packet is not empty
pub record IsPacket (p : Packet) (w : List ℕ) : Type 0 where
  pub not_empty : 0 < length p.body + length p.opt
  pub body : length p.body ≤ max_data
  pub opt : length p.opt ≤ max_optional_data
  pub bytes : w ≡ spelling p

-- a text is at most one packet, a packet has one text, and no packet is a proper prefix of another
abbrev pub OneReading : Type 0
OneReading = (p q : Packet) (v w rest : List ℕ) → IsPacket p v → IsPacket q w → w ≡ v ++ rest → (p ≡ q) × (rest ≡ [])

-- The size of one read. Own choice.
use Rattle.std.specs.Prelude.{ℕ}

-- the maximum number of bytes that one read returns
abbrev pub max_read : ℕ
max_read = 256

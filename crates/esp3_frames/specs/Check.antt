-- The CRC-8 of a message: the remainder of the message, times x^8, by x^8 + x^2 + x + 1. It starts at 0; nothing is
-- reflected, or inverted at the end (EnOcean Serial Protocol 3, "CRC8 calculation").
use Rattle.std.specs.Prelude.{ℕ, zero, suc, ◌+◌, ◌*◌, Bool, List, [], ◌∷◌, ◌++◌, length, ◌==◌, nat_lt, bit_xor}
use Rattle.std.specs.Prelude.{if◌then◌else◌}
use Rattle.std.specs.Int.{bit_at}

-- a remainder times x: the double, minus the polynomial if the double exceeds a byte
abbrev pub times_x : ℕ → ℕ
times_x n = if nat_lt (2 * n) 256 then 2 * n else bit_xor (2 * n) 0x107

-- the remainder of x^k
unfoldable pub power_of_x : (k : ℕ) → ℕ
power_of_x zero = 1
power_of_x (suc k) = times_x (power_of_x k)

-- the bits of a byte, the most significant bit first
unfoldable pub byte_bits : ℕ → List Bool
byte_bits b =
    (bit_at b 7 == 1) ∷ (bit_at b 6 == 1) ∷ (bit_at b 5 == 1) ∷ (bit_at b 4 == 1) ∷ (bit_at b 3 == 1) ∷
    (bit_at b 2 == 1) ∷ (bit_at b 1 == 1) ∷ (bit_at b 0 == 1) ∷ []

-- the bits of a message
unfoldable pub bits : List ℕ → List Bool
bits [] = []
bits (b ∷ m) = byte_bits b ++ bits m

-- a set bit followed by k bits is x^(k + 8)
unfoldable pub remainder : List Bool → ℕ
remainder [] = 0
remainder (b ∷ bs) = bit_xor (if b then power_of_x (length bs + 8) else 0) (remainder bs)

-- the CRC of a message
unfoldable pub check : List ℕ → ℕ
check m = remainder (bits m)

-- the CRC of a message whose CRC is c, after n more zero bytes
unfoldable pub crc_after_zeros : (c n : ℕ) → ℕ
crc_after_zeros c zero = c
crc_after_zeros c (suc n) = crc_after_zeros (check (c ∷ [])) n

-- Bits and fields of bytes. Bit offset 0 is the most significant bit of the first byte, and a field is a number with
-- its most significant bit first (EnOcean Equipment Profiles 2.6, on bit offsets). The form of the definitions is an
-- own choice.
use Rattle.std.specs.Prelude.{◌≡◌, ℕ, ◌+◌, ◌*◌, ◌^◌, List, [], ◌∷◌, ◌++◌, length, take, drop}
use Rattle.std.specs.Int.{bit_at}

-- the bits of a byte, the most significant first
unfoldable pub byte_bits : ℕ → List ℕ
byte_bits b =
    bit_at b 7 ∷ bit_at b 6 ∷ bit_at b 5 ∷ bit_at b 4 ∷ bit_at b 3 ∷ bit_at b 2 ∷ bit_at b 1 ∷ bit_at b 0 ∷ []

-- the bits of bytes, those of the first byte first: the bit at an offset is the list element at that index
unfoldable pub bits : List ℕ → List ℕ
bits [] = []
bits (byte ∷ bytes) = byte_bits byte ++ bits bytes

-- the number of a list of bits in base 2, the most significant first
unfoldable pub number : (bits : List ℕ) → ℕ
number [] = 0
number (bit ∷ lower) = bit * 2 ^ length lower + number lower

-- the field of len bits at a bit offset (EnOcean Equipment Profiles 2.6: "Offset" and "Size" of a row)
unfoldable pub field : (bytes : List ℕ) (offset len : ℕ) → ℕ
field bytes offset len = number (take len (drop offset (bits bytes)))

-- changed is bytes with the field set to value: it is as long, the field is value, and the bits before and after the
-- field are those of bytes (own choice: the profiles do not say that a sender keeps the other bits)
pub record WithField (bytes : List ℕ) (offset len value : ℕ) (changed : List ℕ) : Type 0 where
  pub same_length : length changed ≡ length bytes
  pub field_has_value : field changed offset len ≡ value
  pub bits_before_kept : take offset (bits changed) ≡ take offset (bits bytes)
  pub bits_after_kept : drop (offset + len) (bits changed) ≡ drop (offset + len) (bits bytes)

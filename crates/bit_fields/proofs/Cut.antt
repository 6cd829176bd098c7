-- A list of bits, split before and after a part of it.
use Rattle.std.proofs.Common.{◌≡◌, ℕ, ◌+◌, ◌-◌, ◌*◌, ◌/◌, ◌%◌, ◌^◌, ◌<◌, ◌≤◌, List, ◌++◌}
use Rattle.std.proofs.Common.{length, take, drop, arith, length-drop}
use Rattle.std.proofs.lemmas.Nat.{shr_high, mod_low}
use Rattle.std.proofs.lemmas.List.{take-append-drop, length-take-le, drop-drop, drop-take, take-take}
use Rattle.bit_fields.specs.Bits.{number}
use Rattle.bit_fields.proofs.Numbers.{AreBits, AreBits-take, AreBits-drop, number-three, number-below}

-- a list of bits, split before and after len bits at offset
pub record Cut (xs : List ℕ) (offset len : ℕ) : Type 0 where
  pub whole : take offset xs ++ (take len (drop offset xs) ++ drop (offset + len) xs) ≡ xs
  pub len_front : length (take offset xs) ≡ offset
  pub len_middle : length (take len (drop offset xs)) ≡ len
  pub len_back : length (drop (offset + len) xs) ≡ length xs - (offset + len)
  pub front : AreBits (take offset xs)
  pub middle : AreBits (take len (drop offset xs))
  pub back : AreBits (drop (offset + len) xs)

pub cut : (xs : List ℕ) (offset len : ℕ) → AreBits xs → offset + len ≤ length xs → Cut xs offset len
cut xs offset len h within = record {
  whole = grind (arith, drop-drop len offset xs, take-append-drop);
  len_front = length-take-le offset xs (omega arith);
  len_middle = length-take-le len (drop offset xs) (omega (arith, length-drop offset xs));
  len_back = length-drop (offset + len) xs;
  front = AreBits-take offset xs h;
  middle = AreBits-take len (drop offset xs) (AreBits-drop offset xs h);
  back = AreBits-drop (offset + len) xs h;
}

-- the number of a list of bits, from its three parts
pub number-cut : (xs : List ℕ) (offset len : ℕ) → Cut xs offset len →
    number xs ≡ (number (take offset xs) * 2 ^ len + number (take len (drop offset xs))) * 2 ^
    (length xs - (offset + len)) + number (drop (offset + len) xs)
number-cut xs offset len h = grind (arith, number, number-three)

pub middle-below : (xs : List ℕ) (offset len : ℕ) → Cut xs offset len → number (take len (drop offset xs)) < 2 ^ len
middle-below xs offset len h = grind (arith, number, number-below)

pub back-below : (xs : List ℕ) (offset len : ℕ) → Cut xs offset len →
    number (drop (offset + len) xs) < 2 ^ (length xs - (offset + len))
back-below xs offset len h = grind (arith, number-below (drop (offset + len) xs) h.back, h.len_back)

-- the number of the len bits at offset, from the number of all bits
pub number-part : (xs : List ℕ) (offset len : ℕ) → AreBits xs → offset + len ≤ length xs →
    number xs / 2 ^ (length xs - (offset + len)) % 2 ^ len ≡ number (take len (drop offset xs))
number-part xs offset len h within =
    let parts = cut xs offset len h within in
    let below = length xs - (offset + len) in
    rw (
      number-cut xs offset len parts,
      shr_high _ below _ (back-below xs offset len parts),
      mod_low _ len _ (middle-below xs offset len parts),
    )

pub part-part : (xs : List ℕ) (a r len m : ℕ) → r + len ≤ m
    → take len (drop r (take m (drop a xs))) ≡ take len (drop (a + r) xs)
part-part xs a r len m h =
    let size : m ≡ r + (m - r) = omega arith in
    rw (size, drop-take r (m - r) (drop a xs), take-take len (m - r) _ (omega arith), drop-drop r a xs)

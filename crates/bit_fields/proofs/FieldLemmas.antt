-- Getting and setting fields of bytes.
use Rattle.std.proofs.Common.{◌≡◌, ℕ, ◌+◌, ◌-◌, ◌*◌, ◌/◌, ◌%◌, ◌^◌, ◌<◌, ◌≤◌, List, ◌++◌, length, take, drop, sym}
use Rattle.std.proofs.Common.{◌∙◌, arith, length-append, length-drop, ◌⊎◌, inl, inr}
use Rattle.std.proofs.lemmas.List.{take-append-drop, length-take-le, drop-drop}
use Rattle.std.specs.List.{All}
use Rattle.bit_fields.specs.Bits.{bits, number, field, WithField}
use Rattle.bit_fields.proofs.Numbers.{same_from_number}
use Rattle.bit_fields.proofs.Bytes.{length-bits, bits-append, AreBits-bits, part-bits, same_from_bits}
use Rattle.bit_fields.proofs.Cut.{cut, number-part, part-part}
use Rattle.bit_fields.proofs.Middle.{number-with_middle, keeps, keeps-inside}

-- a field, from the number of the count bytes from first on that contain it, with below bits after it
pub field_from_part : (bytes : List ℕ) (offset len first count below : ℕ) → 8 * first ≤ offset
    → 8 * (first + count) ≡ offset + len + below → first + count ≤ length bytes →
    number (bits (take count (drop first bytes))) / 2 ^ below % 2 ^ len ≡ field bytes offset len
unfolding field
field_from_part bytes offset len first count below begins ends within =
    let r = offset - 8 * first in
    let part = bits (take count (drop first bytes)) in
    let size : length part ≡ 8 * count =
    grind (arith, length-bits (take count (drop first bytes)), length-take-le, length-drop first bytes) in
    let behind : length part - (r + len) ≡ below = omega (arith, size) in
    let place : 8 * first + r ≡ offset = omega arith in
    (rw behind at (number-part part r len (AreBits-bits _) (omega (arith, size))))
    ∙ rw (part-bits bytes first count within, part-part (bits bytes) (8 * first) r len (8 * count) (omega arith), place)

-- a field set within a part of the bytes
WithField-part : (front old new back : List ℕ) (offset len value below : ℕ) → length new ≡ length old
    → 8 * length front ≤ offset
    → 8 * (length front + length old) ≡ offset + len + below → value < 2 ^ len →
    number (bits new) ≡ number-with_middle (number (bits old)) below len value
    → WithField (front ++ (old ++ back)) offset len value (front ++ (new ++ back))
unfolding field
WithField-part front old new back offset len value below same_length begins ends fits e =
    let r = offset - 8 * length front in
    let behind : below ≡ length (bits old) - (r + len) = omega (arith, length-bits old) in
    let size : length (bits new) ≡ length (bits old) = omega (arith, length-bits old, length-bits new) in
    let within : r + len ≤ length (bits old) = omega (arith, length-bits old) in
    let inside =
    keeps (bits old) (bits new) r len value (AreBits-bits old) (AreBits-bits new) size within fits (rw behind at e) in
    let all = keeps-inside (bits front) (bits old) (bits new) (bits back) r len value size within inside in
    let place : length (bits front) + r ≡ offset = omega (arith, length-bits front) in
    record {
      same_length = simp length-append (omega arith);
      field_has_value = simp bits-append (rw (← place) all.field_has_value);
      bits_before_kept = simp bits-append (rw (← place) all.bits_before_kept);
      bits_after_kept = simp bits-append (rw (← place) all.bits_after_kept);
    }

-- the same for the part of count bytes from first on
pub WithField-by_part : (bytes new : List ℕ) (offset len value first count below : ℕ) → 8 * first ≤ offset
    → 8 * (first + count) ≡ offset + len + below → first + count ≤ length bytes → value < 2 ^ len →
    length new ≡ length (take count (drop first bytes)) →
    number (bits new) ≡ number-with_middle (number (bits (take count (drop first bytes)))) below len value →
    WithField bytes offset len value (take first bytes ++ (new ++ drop count (drop first bytes)))
WithField-by_part bytes new offset len value first count below begins ends within fits same_length new_number =
    let front = take first bytes in
    let old = take count (drop first bytes) in
    let back = drop count (drop first bytes) in
    let whole : front ++ (old ++ back) ≡ bytes = grind (arith, take-append-drop) in
    let front_size : length front ≡ first = length-take-le first bytes (omega arith) in
    let old_size : length old ≡ count = grind (arith, length-take-le, length-drop) in
    rw whole at (WithField-part front old new back offset len value below same_length (rw front_size begins)
    (rw (front_size, old_size) ends) fits new_number)

-- a field before offset depends only on the bits before offset, and one after it only on those after it
field_of_front : (bytes : List ℕ) (place other len : ℕ) → other + len ≤ place →
    field bytes other len ≡ number (take len (drop other (take place (bits bytes))))
unfolding field
field_of_front bytes place other len h = grind (arith, part-part (bits bytes) 0 other len place h)

field_of_back : (bytes : List ℕ) (place other len : ℕ) → place ≤ other →
    field bytes other len ≡ number (take len (drop (other - place) (drop place (bits bytes))))
unfolding field
field_of_back bytes place other len h = grind (arith, number, drop-drop, bits)

pub disjoint_field-stays : (bytes changed : List ℕ) (offset len value : ℕ) → WithField bytes offset len value changed
    → (o l : ℕ) → (o + l ≤ offset) ⊎ (offset + len ≤ o) → field changed o l ≡ field bytes o l
disjoint_field-stays bytes changed offset len value h o l (inl q) =
    rw (field_of_front changed offset o l q, field_of_front bytes offset o l q, h.bits_before_kept)
disjoint_field-stays bytes changed offset len value h o l (inr q) =
    rw (field_of_back changed (offset + len) o l q, field_of_back bytes (offset + len) o l q, h.bits_after_kept)

pub field_set-unique : (bytes a b : List ℕ) (offset len value : ℕ) → All (λ byte. byte < 2 ^ 8) a
    → All (λ byte. byte < 2 ^ 8) b → offset + len ≤ 8 * length bytes →
    WithField bytes offset len value a → WithField bytes offset len value b → a ≡ b
unfolding field
field_set-unique bytes a b offset len value ha hb within sa sb =
    let ca = cut (bits a) offset len (AreBits-bits a) (omega (arith, length-bits a, sa.same_length)) in
    let cb = cut (bits b) offset len (AreBits-bits b) (omega (arith, length-bits b, sb.same_length)) in
    let middle : take len (drop offset (bits a)) ≡ take len (drop offset (bits b)) =
    same_from_number _ _ ca.middle cb.middle (ca.len_middle ∙ sym cb.len_middle)
    (sa.field_has_value ∙ sym sb.field_has_value) in
    same_from_bits a b ha hb (cc (
      ca.whole,
      cb.whole,
      middle,
      sa.bits_before_kept,
      sb.bits_before_kept,
      sa.bits_after_kept,
      sb.bits_after_kept,
    ))

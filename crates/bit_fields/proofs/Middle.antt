-- A number with new bits in its middle.
use Rattle.std.proofs.Common.{◌≡◌, ℕ, ◌+◌, ◌-◌, ◌*◌, ◌/◌, ◌%◌, ◌^◌, ◌<◌, ◌≤◌, List, ◌++◌}
use Rattle.std.proofs.Common.{length, take, drop, sym, ap, ◌∙◌, arith, add_comm, length-drop, bit_and, bit_or}
use Rattle.std.proofs.lemmas.Nat.{pow-add, pow_pos, shr_high, mod_low, shr_split, shr-shr, same_from_place, and_mask}
use Rattle.std.proofs.lemmas.Nat.{or_shifted, mul-add-lt, mod_below, shl_whole, one_shl, shr_below}
use Rattle.std.proofs.lemmas.List.{drop-append-le, take-append-le}
use Rattle.std.proofs.Math.Seq.{take-append-add, drop-append-add}
use Rattle.std.proofs.Math.Nat.{mod-eq_of_lt}
use Rattle.bit_fields.specs.Bits.{number}
use Rattle.bit_fields.proofs.Numbers.{AreBits, same_from_number}
use Rattle.bit_fields.proofs.Cut.{cut, number-cut, middle-below, back-below}

-- the number with the len bits above its lowest below bits replaced by value
unfoldable pub number-with_middle : ℕ → ℕ → ℕ → ℕ → ℕ
number-with_middle number below len value =
    (number / 2 ^ (len + below) * 2 ^ len + value) * 2 ^ below + number % 2 ^ below

-- a number with new bits in its middle has the same bits before and after them
pub record Keeps (xs : List ℕ) (offset len value : ℕ) (ys : List ℕ) : Type 0 where
  pub field_has_value : number (take len (drop offset ys)) ≡ value
  pub bits_before_kept : take offset ys ≡ take offset xs
  pub bits_after_kept : drop (offset + len) ys ≡ drop (offset + len) xs

-- a number with a new middle has the bits with a new middle
pub keeps : (xs ys : List ℕ) (offset len value : ℕ) → AreBits xs → AreBits ys → length ys ≡ length xs
    → offset + len ≤ length xs → value < 2 ^ len →
    number ys ≡ number-with_middle (number xs) (length xs - (offset + len)) len value → Keeps xs offset len value ys
unfolding number-with_middle
keeps xs ys offset len value hx hy l within fits e =
    let below = length xs - (offset + len) in
    let kx = cut xs offset len hx within in
    let ky = cut ys offset len hy (rw l within) in
    let back_x = back-below xs offset len kx in
    let back_y : number (drop (offset + len) ys) < 2 ^ below = rw l at (back-below ys offset len ky) in
    let low : number xs % 2 ^ below ≡ number (drop (offset + len) xs) =
    rw (number-cut xs offset len kx) (mod_low _ below _ back_x) in
    let high : number xs / 2 ^ (len + below) ≡ number (take offset xs) =
    rw (
      add_comm len below,
      ← shr-shr (number xs) below len,
      number-cut xs offset len kx,
      shr_high _ below _ back_x,
    ) (shr_high _ len _ (middle-below xs offset len kx)) in
    let sum = sym (rw l at (number-cut ys offset len ky)) ∙ (rw (high, low) at e) in
    let outer = same_from_place _ _ _ _ (2 ^ below) back_y back_x sum in
    let inner = same_from_place _ _ _ _ (2 ^ len) (middle-below ys offset len ky) fits outer.0 in
    record {
      field_has_value = inner.1;
      bits_before_kept = same_from_number _ _ ky.front kx.front (ky.len_front ∙ sym kx.len_front) inner.0;
      bits_after_kept =
          same_from_number _ _ ky.back kx.back (ky.len_back ∙ (ap (λ k. k - (offset + len)) l ∙ sym kx.len_back))
          outer.1;
    }

-- the same inside a longer list of bits
pub keeps-inside : (front old new back : List ℕ) (offset len value : ℕ) → length new ≡ length old
    → offset + len ≤ length old → Keeps old offset len value new →
    Keeps (front ++ (old ++ back)) (length front + offset) len value (front ++ (new ++ back))
keeps-inside front old new back offset len value same_length within h =
    grind (arith, length-drop, number, drop-append-add, drop-append-le, take-append-le, take-append-add)

-- the number with a new middle, by shifts and masks of 64-bit numbers
pub shifted_and_masked : (wide below len value : ℕ) → wide < 2 ^ 64 → below + len < 64 → value < 2 ^ len →
    bit_or (wide / 2 ^ (below + len) * 2 ^ (below + len) % 2 ^ 64)
    (bit_or (value * 2 ^ below % 2 ^ 64) (bit_and wide (1 * 2 ^ below % 2 ^ 64 - 1)))
    ≡ number-with_middle wide below len value
unfolding number-with_middle
shifted_and_masked wide below len value small narrow fits =
    let high = wide / 2 ^ (below + len) in
    let low : wide % 2 ^ below < 2 ^ below = mod_below wide (2 ^ below) (pow_pos below) in
    let cleared : high * 2 ^ (below + len) < 2 ^ 64 = omega (arith, shr_split wide (below + len)) in
    let power : 2 ^ (below + len) ≡ 2 ^ len * 2 ^ below = rw add_comm (pow-add 2 len below) in
    let inner : value * 2 ^ below + wide % 2 ^ below < 2 ^ (below + len) =
    rw power (omega (arith, mul-add-lt value (2 ^ below) (wide % 2 ^ below) (2 ^ len) fits low)) in
    rw (
      mod-eq_of_lt cleared,
      shl_whole value len below 64 fits (omega arith),
      one_shl below 64 (omega arith),
      and_mask,
      or_shifted value below (wide % 2 ^ below) low,
      or_shifted high (below + len) (value * 2 ^ below + wide % 2 ^ below) inner,
      add_comm below len,
      pow-add 2 len below,
    ) (omega arith)

-- a new middle keeps a number in its range
pub number-with_middle-below : (wide rest len below value : ℕ) → wide < 2 ^ (rest + (len + below)) → value < 2 ^ len →
    number-with_middle wide below len value < 2 ^ (rest + (len + below))
unfolding number-with_middle
number-with_middle-below wide rest len below value small fits =
    let high : wide / 2 ^ (len + below) < 2 ^ rest = shr_below wide rest (len + below) small in
    let low : wide % 2 ^ below < 2 ^ below = mod_below wide (2 ^ below) (pow_pos below) in
    let top : wide / 2 ^ (len + below) * 2 ^ len + value < 2 ^ len * 2 ^ rest =
    mul-add-lt _ (2 ^ len) value (2 ^ rest) high fits in
    let all = mul-add-lt _ (2 ^ below) (wide % 2 ^ below) (2 ^ len * 2 ^ rest) top low in
    let p : 2 ^ (rest + (len + below)) ≡ 2 ^ below * (2 ^ len * 2 ^ rest) =
    pow-add 2 rest (len + below) ∙ (ap (λ n. 2 ^ rest * n) (pow-add 2 len below) ∙ omega arith) in
    rw p all

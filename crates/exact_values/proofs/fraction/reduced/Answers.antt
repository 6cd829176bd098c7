use Rattle.std.proofs.lemmas.Grind.{common_steps}
use Rattle.std.proofs.Common.{◌≡◌, ◌^◌, ◌<◌, ◌≤◌, arith, w64, ℕ, subst}
use Rattle.std.specs.Prelude.{ℤ, pos, int_div, unsigned_abs, FitsSigned}
use Rattle.std.specs.Int.{IsGcd}
use Rattle.std.proofs.lemmas.Int.{ints, to_z-of_z, to_z_pos, quot_fits}
use mir.Val.{to_z, of_z}
use Rattle.std.proofs.lemmas.Nat.Gcd.{le_of_dvd}
use Rattle.exact_values.proofs.Divisors.{positive_divisor}
use Rattle.exact_values.proofs.Lowest.{lowest_is, IsLowest_divided, value_divided}
use Rattle.exact_values.proofs.fraction.reduced.Goals as goal

pub overflow_cast-result : goal.overflow_cast-result
overflow_cast-result c = grind (arith, common_steps, ints, le_of_dvd)

pub nonzero_div-result : goal.nonzero_div-result
nonzero_div-result c = grind (arith, common_steps, ints, le_of_dvd, positive_divisor, quot_fits, to_z-of_z, to_z_pos)

pub nonzero_div-result-2 : goal.nonzero_div-result-2
nonzero_div-result-2 c = grind (arith, common_steps, positive_divisor)

-- the numerator of the result
num_made : (t : ℤ) (g : ℕ) → FitsSigned w64 t → 0 < g → g < 2 ^ 63
    → to_z w64 (of_z w64 (int_div (to_z w64 (of_z w64 t)) (to_z w64 g))) ≡ int_div t (pos g)
num_made t g fits p small = grind (arith, ints, common_steps, ints, quot_fits, to_z-of_z, to_z_pos)

-- the divisor is the greatest common divisor of both parts
divides : (c : goal.After-from-2)
    → IsGcd (unsigned_abs c.args.top) c.args.bottom c.greatest_common_divisor-divisor.result
divides c =
    let e : c.unsigned_abs.result ≡ unsigned_abs c.args.top =
    rw (to_z-of_z w64 c.args.top c.ranges.top) at c.unsigned_abs.ensures.value in
    subst (λ (n : ℕ). IsGcd (unsigned_abs c.args.top) n c.greatest_common_divisor-divisor.result) c.from.ensures
    (subst (λ (n : ℕ). IsGcd n c.from.result c.greatest_common_divisor-divisor.result) e
    c.greatest_common_divisor-divisor.ensures)

small : (c : goal.After-from-2) → c.greatest_common_divisor-divisor.result < 2 ^ 63
small c =
    let h = divides c in
    let least : c.greatest_common_divisor-divisor.result ≤ c.args.bottom = le_of_dvd c.requires h.1 in
    omega arith

num_is : (c : goal.After-from-2) →
    to_z w64 (of_z w64 (int_div (to_z w64 (of_z w64 c.args.top)) (to_z w64 c.greatest_common_divisor-divisor.result)))
    ≡ int_div c.args.top (pos c.greatest_common_divisor-divisor.result)
num_is c =
    let h = divides c in
    num_made c.args.top c.greatest_common_divisor-divisor.result c.ranges.top
    (positive_divisor c.args.bottom c.greatest_common_divisor-divisor.result c.requires h.1) (small c)

pub returns-clause-exact : goal.returns-clause-exact
returns-clause-exact c = grind (arith, common_steps, divides, lowest_is, num_is)

pub returns-clause-value : goal.returns-clause-value
returns-clause-value c = grind (arith, common_steps, divides, num_is, positive_divisor, value_divided)

pub returns-clause-in_lowest_terms : goal.returns-clause-in_lowest_terms
returns-clause-in_lowest_terms c =
    rw (num_is c, c.from-2.ensures)
    (IsLowest_divided c.args.top c.args.bottom c.greatest_common_divisor-divisor.result c.requires (divides c))

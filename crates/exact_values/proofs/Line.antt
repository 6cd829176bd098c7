-- The value of a raw number, by its distance from a bound.
use Rattle.std.proofs.Common.{◌≡◌, ℕ, ◌-◌, ◌*◌, ◌≤◌, ap, arith, min, max, ⊎_elim}
use Rattle.std.specs.Prelude.{ℤ, pos, ◌*ℤ◌, ◌+ℤ◌, ◌-ℤ◌}
use lib.IntN.{neg_ℤ, *ℤ_comm}
use Rattle.std.proofs.lemmas.Bool.{cases_lt}
use borrow.Author.Differences.{same_in, product_is, neg_is}
use Rattle.std.proofs.lemmas.Int.{ints}
use Rattle.exact_values.specs.Ratio.{Ratio}
use Rattle.exact_values.specs.Scale.{StandsFor, distance}

neg-*ℤ : (a b : ℤ) → neg_ℤ a *ℤ b ≡ neg_ℤ (a *ℤ b)
neg-*ℤ a b = grind (arith, same_in, product_is, neg_is)

*ℤ-neg : (a b : ℤ) → a *ℤ neg_ℤ b ≡ neg_ℤ (a *ℤ b)
*ℤ-neg a b = grind (arith, *ℤ_comm, neg-*ℤ)

neg-+ℤ : (a b : ℤ) → neg_ℤ a +ℤ neg_ℤ b ≡ neg_ℤ (a +ℤ b)
neg-+ℤ a b = omega (arith, ints)

difference : (a b : ℕ) → a ≤ b → pos b -ℤ pos a ≡ pos (b - a)
difference a b h = omega (arith, ints)

difference_below : (a b : ℕ) → b ≤ a → pos b -ℤ pos a ≡ neg_ℤ (pos (a - b))
difference_below a b h = omega (arith, ints)

pub StandsFor-distances : (r a b : ℕ) (x y : ℤ) (v : Ratio) → min a b ≤ r → r ≤ max a b →
    pos (10 * distance a b) *ℤ v.num ≡ pos v.den *ℤ (x *ℤ pos (distance a b) +ℤ (y -ℤ x) *ℤ pos (distance r a))
    → StandsFor r a b x y v
unfolding StandsFor
StandsFor-distances r a b x y v p q e =
    ⊎_elim (λ upward.
    let width : distance a b ≡ b - a = omega arith in
    let above : distance r a ≡ r - a = omega arith in
    let exact = rw (width, above, *ℤ_comm (y -ℤ x) (pos (r - a))) at e in
    rw (difference a b (omega arith), difference a r (omega arith)) exact)
    (λ downward.
    let width : distance a b ≡ a - b = omega arith in
    let below : distance r a ≡ a - r = omega arith in
    let exact = rw (width, below, *ℤ_comm (y -ℤ x) (pos (a - r))) at e in
    rw (difference_below a b (omega arith), difference_below a r (omega arith))
    (simp (*ℤ-neg, neg-*ℤ, neg-+ℤ) (ap neg_ℤ exact))) (cases_lt a b)

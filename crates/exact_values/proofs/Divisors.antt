-- Greatest common divisors.
use Rattle.std.proofs.lemmas.Grind.{common_steps}
use Rattle.std.proofs.Common.{◌≡◌, ℕ, ◌+◌, ◌*◌, ◌/◌, ◌%◌, ◌<◌, ◌≤◌, refl, sym, ap, ◌∙◌, arith}
use Rattle.std.proofs.Common.{subst, suc, zero}
use Rattle.std.specs.Int.{IsGcd}
use Prim.Native.Nat.{◌∣◌}
use Rattle.std.proofs.lemmas.Nat.Gcd.{le_of_dvd, dvd_of_mod-eq-zero, mod-eq-zero_of_dvd, same_from_IsGcd}
use Rattle.std.proofs.lemmas.Nat.Gcd.{IsGcd-from_zero, IsGcd-from_mod}
use Rattle.std.proofs.Math.Nat.{div-mul_cancel, mul-dvd-mul_right, dvd_of_mul-dvd-mul_right, one-dvd, mul_assoc}
use Rattle.std.proofs.Math.Nat.{dvd-mul_right, add-mul, mod-add-div', dvd-add_iff_left, dvd-mul_left_of_dvd}
use Rattle.std.proofs.lemmas.Bool.Decides.{nat_tests}
use Rattle.exact_values.specs.Ratio.{common_divisor_up_to}

-- two numbers, each divided by their greatest common divisor, have no common divisor but 1
pub IsGcd-divided : (a b g : ℕ) → 0 < g → IsGcd a b g → IsGcd (a / g) (b / g) 1
IsGcd-divided a b g p h = (
  one-dvd (a / g),
  one-dvd (b / g),
  λ d da db.
      let ta : d * g ∣ a = subst (λ (n : ℕ). d * g ∣ n) (div-mul_cancel g h.0) (mul-dvd-mul_right d da g) in
      let tb : d * g ∣ b = subst (λ (n : ℕ). d * g ∣ n) (div-mul_cancel g h.1) (mul-dvd-mul_right d db g) in
      let t : d * g ∣ g = h.2 (d * g) ta tb in
      let one_g : 1 * g ≡ g = omega arith in
      dvd_of_mul-dvd-mul_right d p (subst (λ (n : ℕ). d * g ∣ n) (sym one_g) t),
)

-- the downward search finds it
pub greatest_divisor_is : (k a b g : ℕ) → g ≤ k → 0 < g → IsGcd a b g → common_divisor_up_to k a b ≡ g
unfolding common_divisor_up_to
greatest_divisor_is zero a b g l p h = absurd (omega arith)
greatest_divisor_is (suc k) a b g l p h =
    grind (
      arith,
      nat_tests,
      common_steps,
      dvd_of_mod-eq-zero,
      le_of_dvd,
      mod-eq-zero_of_dvd,
      greatest_divisor_is k a b g,
    )

pub dvd_of_quotient : (b g : ℕ) → g ∣ b → b / g ∣ b
dvd_of_quotient b g d = subst (λ (n : ℕ). b / g ∣ n) (div-mul_cancel g d) (dvd-mul_right (b / g) g)

pub positive_divisor : (b g : ℕ) → 0 < b → g ∣ b → 0 < g
positive_divisor b g p d = grind (arith, common_steps, div-mul_cancel)

-- what divides the products of two numbers with c divides that of their greatest common divisor with c, as the steps of
-- Euclid's algorithm show
product_divisor : (k a b c : ℕ) → b ≤ k → (g : ℕ) × IsGcd a b g × ((d : ℕ) → d ∣ a * c → d ∣ b * c → d ∣ g * c)
product_divisor k a zero c l = (a, IsGcd-from_zero a 0 refl, λ d p q. p)
product_divisor zero a (suc b) c l = absurd (omega arith)
product_divisor (suc k) a (suc b) c l =
    let lower = product_divisor k (suc b) (a % suc b) c (omega arith) in
    let m : a % suc b + a / suc b * suc b ≡ a = mod-add-div' a (suc b) in
    let e : a % suc b * c + a / suc b * (suc b * c) ≡ a * c =
    rw (← mul_assoc (a / suc b) (suc b) c) (sym (add-mul (a % suc b) (a / suc b * suc b) c) ∙ ap (λ n. n * c) m) in (
      lower.0,
      IsGcd-from_mod a (suc b) lower.0 lower.1,
      λ d p q.
          lower.2 d q ((dvd-add_iff_left d (dvd-mul_left_of_dvd d q (a / suc b))).1
          (subst (λ (n : ℕ). d ∣ n) (sym e) p)),
    )

-- what divides a product, and has no common divisor with the first factor but 1, divides the second
pub dvd_of_coprime : (a d c : ℕ) → IsGcd a d 1 → d ∣ a * c → d ∣ c
dvd_of_coprime a d c h p =
    let found = product_divisor d a d c (omega arith) in
    let one : found.0 ≡ 1 = same_from_IsGcd a d found.0 1 found.1 h in
    let same : found.0 * c ≡ c = ap (λ n. n * c) one ∙ omega arith in
    subst (λ (n : ℕ). d ∣ n) same (found.2 d p (dvd-mul_right d c))

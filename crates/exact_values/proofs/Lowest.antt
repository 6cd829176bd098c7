-- Fractions in lowest terms.
use Rattle.std.proofs.lemmas.Grind.{common_steps}
use Rattle.std.proofs.Common.{◌≡◌, ℕ, ◌*◌, ◌/◌, ◌<◌, ◌≤◌, sym, ap, ◌∙◌, arith, subst, suc}
use Rattle.std.specs.Prelude.{ℤ, pos, negsuc, ◌*ℤ◌, int_div, unsigned_abs}
use Rattle.std.specs.Int.{IsGcd}
use Prim.Native.Nat.{◌∣◌}
use Rattle.std.proofs.lemmas.Nat.Gcd.{le_of_dvd, dvd_antisymm}
use Rattle.std.proofs.Math.Nat.{div-mul_cancel, zero-div, add-mul, dvd-mul_left, eq_of_mul-eq-mul_right}
use borrow.Author.Differences.{same_in, product_is, quot_is}
use Rattle.std.proofs.lemmas.Int.{unsigned_abs-mul}
use Rattle.exact_values.specs.Ratio.{Ratio, IsLowest, lowest}
use Rattle.exact_values.proofs.Divisors.{dvd_of_quotient, IsGcd-divided, greatest_divisor_is, positive_divisor}
use Rattle.exact_values.proofs.Divisors.{dvd_of_coprime}

-- n / d, in lowest terms
pub lowest_is : (t : ℤ) (b g : ℕ) → 0 < b → IsGcd (unsigned_abs t) b g
    → lowest t b ≡ record { num = int_div t (pos g); den = b / g }
unfolding lowest
lowest_is t b g p h = grind (arith, greatest_divisor_is, le_of_dvd, positive_divisor)

product_divided : (b n g : ℕ) → g ∣ n → g ∣ b → b * (n / g) ≡ b / g * n
product_divided b n g dn db =
    let eb = ap (λ k. k * (n / g)) (div-mul_cancel g db) in
    let en = ap (λ k. b / g * k) (div-mul_cancel g dn) in
    omega (arith, eb, en)

-- reducing a fraction to lowest terms keeps its value
pub value_divided : (t : ℤ) (b g : ℕ) → 0 < g → g ∣ unsigned_abs t → g ∣ b
    → pos b *ℤ int_div t (pos g) ≡ pos (b / g) *ℤ t
value_divided (pos n) b g p dt db = ap pos (product_divided b n g dt db)
value_divided (negsuc n) b g p dt db =
    let quotient = quot_is (negsuc n) g in
    let up_scaled = ap (λ k. b * k) (quotient.0 ∙ zero-div g) in
    let down_scaled = ap (λ k. b * k) quotient.1 in
    let left = product_is (pos b) (int_div (negsuc n) (pos g)) in
    let right = product_is (pos (b / g)) (negsuc n) in
    same_in _ _ (omega (arith, left, right, up_scaled, down_scaled, product_divided b (suc n) g dt db))

abs_divided : (t : ℤ) (g : ℕ) → 0 < g → unsigned_abs (int_div t (pos g)) ≡ unsigned_abs t / g
abs_divided t g p = grind (arith, common_steps)

pub IsLowest_divided : (t : ℤ) (b g : ℕ) → 0 < b → IsGcd (unsigned_abs t) b g
    → IsLowest (record { num = int_div t (pos g); den = b / g })
IsLowest_divided t b g p h =
    let q : 0 < g = positive_divisor b g p h.1 in
    let least : g ≤ b = le_of_dvd p h.1 in
    record {
      positive = positive_divisor b (b / g) p (dvd_of_quotient b g h.1);
      no_common_divisor = rw (abs_divided t g q) (IsGcd-divided (unsigned_abs t) b g q h);
    }

-- of two fractions with the same value, the denominator of the one in lowest terms divides the other's
dvd-den : (a b : Ratio) → IsLowest a → a.num *ℤ pos b.den ≡ b.num *ℤ pos a.den → a.den ∣ b.den
dvd-den a b h e =
    let sizes : unsigned_abs a.num * b.den ≡ unsigned_abs b.num * a.den =
    sym (unsigned_abs-mul a.num (pos b.den)) ∙ (ap unsigned_abs e ∙ unsigned_abs-mul b.num (pos a.den)) in
    dvd_of_coprime (unsigned_abs a.num) a.den b.den h.no_common_divisor
    (subst (λ (n : ℕ). a.den ∣ n) (sym sizes) (dvd-mul_left a.den (unsigned_abs b.num)))

-- a factor above 0 can be cancelled on both sides
*ℤ-cancel : (x y : ℤ) (d : ℕ) → 0 < d → x *ℤ pos d ≡ y *ℤ pos d → x ≡ y
*ℤ-cancel x y d p e = grind (arith, add-mul, eq_of_mul-eq-mul_right)

-- a value has one fraction in lowest terms
pub same_from_value : (a b : Ratio) → IsLowest a → IsLowest b → a.num *ℤ pos b.den ≡ b.num *ℤ pos a.den → a ≡ b
same_from_value a b h k e =
    let den : a.den ≡ b.den = dvd_antisymm (dvd-den a b h e) (dvd-den b a k (sym e)) in
    let num : a.num ≡ b.num = *ℤ-cancel a.num b.num b.den k.positive (e ∙ ap (λ n. b.num *ℤ pos n) den) in
    ap (λ n. record { num = n; den = a.den }) num ∙ ap (λ n. record { num = b.num; den = n }) den

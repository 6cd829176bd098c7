-- Fractions in lowest terms. They are an own choice: no standard says how to write a value.
use Rattle.std.specs.Prelude.{ℕ, ◌/◌, ◌%◌, ◌<◌, ◌==◌, ◌&&◌, if◌then◌else◌, suc, zero, ℤ, pos, int_div, unsigned_abs}
use Rattle.std.specs.Int.{IsGcd}

-- a fraction: a signed numerator, and a denominator
pub record Ratio : Type 0 where
  pub num : ℤ
  pub den : ℕ

-- r is in lowest terms: the denominator is above 0, and only 1 divides both parts
pub record IsLowest (r : Ratio) : Type 0 where
  pub positive : 0 < r.den
  pub no_common_divisor : IsGcd (unsigned_abs r.num) r.den 1

-- the greatest number up to the first argument that divides both others
unfoldable pub common_divisor_up_to : (most a b : ℕ) → ℕ
common_divisor_up_to zero a b = 1
common_divisor_up_to (suc k) a b = if (a % suc k == 0) && (b % suc k == 0) then suc k else common_divisor_up_to k a b

-- n / d in lowest terms, if d is above 0
unfoldable pub lowest : (n : ℤ) (d : ℕ) → Ratio
lowest n d =
    let g = common_divisor_up_to d (unsigned_abs n) d in
    record { num = int_div n (pos g); den = d / g }

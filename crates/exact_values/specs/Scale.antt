-- The value of a raw number on a linear scale. The columns "Valid Range" and "Scale" of a row give two raw numbers a
-- and b, in either order, and their values x and y; the scale is linear between them (EnOcean Equipment Profiles 2.6).
-- Own choice: x and y are in tenths of the unit, and a number outside the raw bounds has no value.
use Rattle.std.specs.Prelude.{◌≡◌, ℕ, ◌+◌, ◌-◌, ◌*◌, ◌≤◌, ◌&&◌, nat_le, min, max, if◌then◌else◌, ℤ}
use Rattle.std.specs.Prelude.{pos, ◌+ℤ◌, ◌-ℤ◌, ◌*ℤ◌, Option, Some, None}
use Rattle.exact_values.specs.Ratio.{Ratio, lowest}

-- r is one of a and b or between them, whichever is greater
abbrev pub IsBetween : (r a b : ℕ) → Type 0
IsBetween r a b = (min a b ≤ r) × (r ≤ max a b)

-- v is the value of r: v = (x + (r - a) * (y - x) / (b - a)) / 10, without its divisions
unfoldable pub StandsFor : (raw raw_a raw_b : ℕ) (tenths_a tenths_b : ℤ) → Ratio → Type 0
StandsFor r a b x y v =
    pos 10 *ℤ (pos b -ℤ pos a) *ℤ v.num ≡ pos v.den *ℤ (x *ℤ (pos b -ℤ pos a) +ℤ (pos r -ℤ pos a) *ℤ (y -ℤ x))

-- the distance of two numbers
abbrev pub distance : (a b : ℕ) → ℕ
distance a b = (a - b) + (b - a)

-- the value of r, in lowest terms, if r is between a and b
unfoldable pub interpolated : (raw raw_a raw_b : ℕ) (tenths_a tenths_b : ℤ) → Ratio
interpolated r a b x y = lowest (x *ℤ pos (distance a b) +ℤ (y -ℤ x) *ℤ pos (distance r a)) (10 * distance a b)

-- the value of r, if r is between a and b
unfoldable pub scaled : (raw raw_a raw_b : ℕ) (tenths_a tenths_b : ℤ) → Option Ratio
scaled r a b x y = if nat_le (min a b) r && nat_le r (max a b) then Some (interpolated r a b x y) else None

-- Numbers of tenths, for the bounds of a range.
use Rattle.std.specs.Prelude.{ℕ, ℤ, pos, ◌-ℤ◌}

-- a number below zero
abbrev pub minus : ℕ → ℤ
minus n = pos 0 -ℤ pos n

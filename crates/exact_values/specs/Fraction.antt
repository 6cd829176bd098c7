-- The fraction of a Rust value (own choice).
use Rattle.exact_values.specs.declared.fraction.Fraction.{Fraction}
use Rattle.exact_values.specs.Ratio.{Ratio}

abbrev pub ratio : Fraction → Ratio
ratio f = record { num = f.num; den = f.den }

-- Readings (own choice; the values themselves are those of EnOcean Equipment Profiles 2.6).
use Rattle.std.specs.Prelude.{ℕ, List, map}
use Rattle.exact_values.specs.Ratio.{Ratio}
use Rattle.exact_values.specs.Fraction.{ratio}
use Rattle.profile_rows.specs.declared.reading.What.{What}
use Rattle.profile_rows.specs.declared.reading.What.TheVariants as variants
use Rattle.profile_rows.specs.declared.reading.Reading.{Reading}

-- the meaning of a reading: an exact value with a unit, a word, a number without a unit, or a number for which the
-- profile defines neither a value nor a word. Texts are lists of bytes
pub data Meaning : Type 0 where
  value : Ratio → List ℕ → Meaning
  word : List ℕ → Meaning
  raw : ℕ → Meaning
  out_of_range : ℕ → Meaning

-- a name, and its meaning
pub record Entry : Type 0 where
  pub name : List ℕ
  pub meaning : Meaning

-- the meaning of a Rust value
abbrev pub meaning_of : What → Meaning
meaning_of (variants.Value fraction unit) = value (ratio fraction) unit.now
meaning_of (variants.Word text) = word text.now
meaning_of (variants.Raw n) = raw n
meaning_of (variants.OutOfRange n) = out_of_range n

abbrev pub entry_of : Reading → Entry
entry_of r = record { name = r.name.now; meaning = meaning_of r.what }

-- the readings, in order
abbrev pub entries : List Reading → List Entry
entries = map entry_of

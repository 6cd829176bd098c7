-- The rows of a profile's table (EnOcean Equipment Profiles 2.6, the tables "Offset, Size, Data, ShortCut, .., Valid
-- Range, Scale, Unit"): the place of a field, the condition under which it is read, and the meaning of its number.
use Rattle.std.specs.Prelude.{ℕ, ◌^◌, ℤ, pos, Bool, true, List, [], ◌∷◌, codes, Option, Some, None, ◌==◌, ◌&&◌}
use Rattle.std.specs.Prelude.{nat_lt, if◌then◌else◌}
use Rattle.std.specs.List.{find, flat_map}
use Rattle.exact_values.specs.Ratio.{Ratio, lowest}
use Rattle.exact_values.specs.Scale.{scaled}
use Rattle.bit_fields.specs.Bits.{field}
use Rattle.profile_rows.specs.Reading.{Meaning, value, word, raw, out_of_range, Entry}

-- the meaning of the number in a field
pub data RowKind : Type 0 where
  -- a value with a unit: the first number means the third, in tenths of the unit, and the second means the fourth;
  -- linear between them
  range : (raw_a raw_b : ℕ) (tenths_a tenths_b : ℤ) (unit : List ℕ) → RowKind
  -- the word listed with the number
  words : List (ℕ × List ℕ) → RowKind
  -- one word below a number, another from that number on
  threshold : (bound : ℕ) (below from : List ℕ) → RowKind
  -- 0 to 100 percent, and a word for 127
  percent_or_word_127 : (text : List ℕ) → RowKind
  -- a value with a unit: the number divided by a divisor
  over : (divisor : ℕ) (unit : List ℕ) → RowKind
  -- a value with a unit: the number divided by ten to the power of another field, given by its offset and length
  over_power : (offset len : ℕ) (unit : List ℕ) → RowKind
  -- the number itself
  number : RowKind
  -- all numbers are reserved: none has a meaning
  reserved : RowKind

-- the condition under which a row is read
pub data Condition : Type 0 where
  always : Condition
  -- the field at this offset, of this length, is this number
  field_equals : (offset len n : ℕ) → Condition
  -- the field at this offset, of this length, is above this number
  field_above : (offset len n : ℕ) → Condition
  -- the bit NU of the status is this number
  nu_equals : (n : ℕ) → Condition
  both : Condition → Condition → Condition

-- a row: its name, the offset and length of its field, its condition, and the meaning of its number
pub record Row : Type 0 where
  pub name : List ℕ
  pub offset : ℕ
  pub len : ℕ
  pub condition : Condition
  pub kind : RowKind

-- the bit NU of a status byte (ISO/IEC 14543-3-10, "Status": the fourth bit from the left)
abbrev pub nu_bit : (status : ℕ) → ℕ
nu_bit status = field (status ∷ []) 3 1

-- a condition holds for a telegram with this status and this payload
abbrev pub condition_holds : Condition → (status : ℕ) (payload : List ℕ) → Bool
condition_holds always status payload = true
condition_holds (field_equals offset len n) status payload = field payload offset len == n
condition_holds (field_above offset len n) status payload = nat_lt n (field payload offset len)
condition_holds (nu_equals n) status payload = nu_bit status == n
condition_holds (both a b) status payload = condition_holds a status payload && condition_holds b status payload

-- a value with a unit, or no value
abbrev pub value_or_out_of_range : (unit : List ℕ) → ℕ → Option Ratio → Meaning
value_or_out_of_range unit n None = out_of_range n
value_or_out_of_range unit n (Some ratio) = value ratio unit

-- the value of n if a means x tenths of a unit and b means y tenths
abbrev pub scaled_or_out_of_range : (a b : ℕ) (x y : ℤ) (unit : List ℕ) (n : ℕ) → Meaning
scaled_or_out_of_range a b x y unit n = value_or_out_of_range unit n (scaled n a b x y)

-- the word that was found, or none
abbrev pub word_or_out_of_range : ℕ → Option (ℕ × List ℕ) → Meaning
word_or_out_of_range n None = out_of_range n
word_or_out_of_range n (Some found) = word found.1

-- the word listed with n in a list of numbers and words
abbrev pub word_for : List (ℕ × List ℕ) → ℕ → Meaning
word_for list n = word_or_out_of_range n (find (λ entry. entry.0 == n) list)

-- one word below a bound, another from the bound on
abbrev pub word_at_threshold : (bound : ℕ) (below from : List ℕ) (n : ℕ) → Meaning
word_at_threshold bound below from n = if nat_lt n bound then word below else word from

-- a percentage, and a word for 127
abbrev pub percentage_or_word_127 : (text : List ℕ) → ℕ → Meaning
percentage_or_word_127 text n =
    if n == 127 then word text else scaled_or_out_of_range 0 100 (pos 0) (pos 1000) (codes "%") n

-- n divided by a divisor, with a unit
abbrev pub quotient : (divisor : ℕ) (unit : List ℕ) (n : ℕ) → Meaning
quotient divisor unit n = value (lowest (pos n) divisor) unit

-- the meaning of the number n in a field of this payload
abbrev pub row_meaning : RowKind → (payload : List ℕ) → ℕ → Meaning
row_meaning (range a b x y unit) payload n = scaled_or_out_of_range a b x y unit n
row_meaning (words list) payload n = word_for list n
row_meaning (threshold bound below from) payload n = word_at_threshold bound below from n
row_meaning (percent_or_word_127 text) payload n = percentage_or_word_127 text n
row_meaning (over divisor unit) payload n = quotient divisor unit n
row_meaning (over_power offset len unit) payload n = quotient (10 ^ field payload offset len) unit n
row_meaning number payload n = raw n
row_meaning reserved payload n = out_of_range n

-- the readings of a row in a telegram with this status and this payload: none if its condition does not hold
abbrev pub row_entries : (status : ℕ) (payload : List ℕ) → Row → List Entry
row_entries status payload row =
    if condition_holds row.condition status payload
    then record { name = row.name; meaning = row_meaning row.kind payload (field payload row.offset row.len) } ∷ []
    else []

-- the readings of a list of rows, in their order
abbrev pub rows_entries : (status : ℕ) (payload : List ℕ) → List Row → List Entry
rows_entries status payload rows = flat_map (row_entries status payload) rows

-- the readings of rows in a payload, if none of them depends on the status
abbrev pub entries_of : (payload : List ℕ) → List Row → List Entry
entries_of payload rows = rows_entries 0 payload rows

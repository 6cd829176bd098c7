-- For private postconditions: the JSON values whose texts the lines are, and the bytes that serde_json makes of one.
use Rattle.std.specs.Prelude.{◌≡◌, ℕ, pos, ◌-ℤ◌, List, [], ◌∷◌, ◌++◌, map, slice_get, codes, Option, Some, None}
use Rattle.json.specs.Print.{escape}
use Rattle.serde.specs.Event.{Log}
use Rattle.serde_json.specs.Data.{Data, unsigned, null, number, string, array, object, Items, Members, member}
use Rattle.serde_json.specs.Data.{no_members}
use Rattle.serde_json.specs.Find.{of_integer}
use Rattle.serde_json.specs.Sent.{IsTextOf}
use Rattle.serde_json.specs.View.{items_of}
use Rattle.erp1_telegrams.specs.declared.eep.Eep.{Eep}
use Rattle.profile_rows.specs.Reading.{Meaning, value, word, raw, out_of_range, Entry}
use Rattle.learned_devices.specs.declared.Device.{Device}
use Rattle.teach_in.specs.declared.mode.Mode.{Mode}
use Rattle.gateway_state.specs.declared.counts.Counts.{Counts}
use Rattle.json_lines.specs.Lines.{ReadingLine, TeachLine, id_text, eep_text, outcome_word, mode_word}
use Rattle.json_lines.specs.Lines.{return_code_names}

-- the text appears in a JSON string unchanged, with no escape
abbrev pub NeedsNoEscape : (text : List ℕ) → Type 0
NeedsNoEscape text = escape text ≡ text

-- the line is the text made of what was sent, and a line feed
pub record IsLineOf (Writes : Log → Log → Type 0) (line : List ℕ) : Type 0 where
  pub text : List ℕ
  pub log : Log
  pub log_written : Writes (Some []) log
  pub made : IsTextOf log text
  pub ends : line ≡ text ++ codes "\n"

-- the members of an object, each a name and a value
abbrev pub members : List (List ℕ × Data) → Members
members [] = no_members
members (m ∷ ms) = member m.0 m.1 (members ms)

-- an object with these members
abbrev pub object_of : List (List ℕ × Data) → Data
object_of ms = object (members ms)

-- a value, or null if it is unknown
abbrev pub value_or_null : {A : Type 0} → (A → Data) → Option A → Data
value_or_null data_of None = null
value_or_null data_of (Some known) = data_of known

-- a number without a sign
abbrev pub number_data : ℕ → Data
number_data n = number (unsigned n)

abbrev pub id_data : (id : ℕ) → Data
id_data id = string (id_text id)

abbrev pub profile_data : Eep → Data
profile_data eep = string (eep_text eep)

-- the signal strength
abbrev pub dbm_data : (byte : ℕ) → Data
dbm_data byte = number (of_integer (pos 0 -ℤ pos byte))

-- a name, and a value under a key
abbrev pub pair_members : (name key : List ℕ) → Data → List (List ℕ × Data)
pair_members name key said = (codes "name", string name) ∷ (key, said) ∷ []

-- what is read under a name
abbrev pub named_members : (name : List ℕ) → Meaning → List (List ℕ × Data)
named_members name (value ratio unit) =
    (codes "den", number_data ratio.den)
    ∷ (codes "name", string name)
    ∷ (codes "num", number (of_integer ratio.num))
    ∷ (codes "unit", string unit) ∷ []
named_members name (word text) = pair_members name (codes "word") (string text)
named_members name (raw n) = pair_members name (codes "raw") (number_data n)
named_members name (out_of_range n) = pair_members name (codes "out_of_range") (number_data n)

abbrev pub named_data : (name : List ℕ) → Meaning → Data
named_data name meaning = object_of (named_members name meaning)

abbrev pub entry_data : Entry → Data
entry_data entry = named_data entry.name entry.meaning

-- the entries in their order
abbrev pub entries_data : List Entry → Items
entries_data list = items_of (map entry_data list)

-- ---- the members of the lines

abbrev pub reading_members : ReadingLine → List (List ℕ × Data)
reading_members line =
    (codes "dbm", value_or_null dbm_data line.dbm)
    ∷ (codes "eep", profile_data line.eep)
    ∷ (codes "id", id_data line.id)
    ∷ (codes "readings", array (entries_data line.readings))
    ∷ (codes "type", string (codes "reading")) ∷ []

abbrev pub teach_members : TeachLine → List (List ℕ × Data)
teach_members line =
    (codes "eep", value_or_null profile_data line.eep)
    ∷ (codes "id", id_data line.id)
    ∷ (codes "maker", value_or_null number_data line.maker)
    ∷ (codes "result", string (outcome_word line.outcome))
    ∷ (codes "type", string (codes "teach")) ∷ []

abbrev pub device_members : Device → List (List ℕ × Data)
device_members known =
    (codes "eep", profile_data known.eep)
    ∷ (codes "id", id_data known.id)
    ∷ (codes "label", string known.label)
    ∷ (codes "maker", value_or_null number_data known.maker)
    ∷ (codes "type", string (codes "device")) ∷ []

-- the line after this many devices
abbrev pub list_end_members : (count : ℕ) → List (List ℕ × Data)
list_end_members count = (codes "count", number_data count) ∷ (codes "type", string (codes "list")) ∷ []

abbrev pub status_members : Counts → Mode → List (List ℕ × Data)
status_members counts mode =
    (codes "ignored", number_data counts.ignored)
    ∷ (codes "mode", string (mode_word mode))
    ∷ (codes "readings", number_data counts.readings)
    ∷ (codes "refused", number_data counts.refused)
    ∷ (codes "responses", number_data counts.responses)
    ∷ (codes "teach", number_data counts.teach)
    ∷ (codes "type", string (codes "status")) ∷ []

-- a response line, with the digits of the bytes
abbrev pub response_members : (code : ℕ) (digits : List ℕ) → List (List ℕ × Data)
response_members code digits =
    (codes "code", number_data code)
    ∷ (codes "data", string digits)
    ∷ (codes "name", value_or_null string (slice_get return_code_names code))
    ∷ (codes "type", string (codes "response")) ∷ []

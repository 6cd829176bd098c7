-- The JSON values of the lines have the texts of the lines, and contain no float; so serde_json writes the line's text
-- for what a line sends.
use Rattle.std.proofs.Common.{◌≡◌, ℕ, ℤ, pos, negsuc, ◌-ℤ◌, List, [], ◌∷◌, ◌++◌, map, codes, decimal, true, false}
use Rattle.std.proofs.Common.{slice_get, Option, Some, None, refl, rules, sym, ap, ap₂, ◌∙◌, append_assoc}
use Rattle.std.specs.Fmt.{signed_decimal}
use Rattle.std.specs.List.{AllByRecursion, join_by, flat_map}
use Rattle.json.specs.Print.{quoted}
use Rattle.serde_json.specs.Data.{Data, string}
use Rattle.serde_json.specs.Events.{SendsValue}
use Rattle.serde_json.specs.Written.{number_text, compact_text, items_text, members_text, has_float, items_have_float}
use Rattle.serde_json.specs.Find.{of_integer, is_float}
use Rattle.serde_json.proofs.FreeTexts.{text_of_value}
use Rattle.serde_json.proofs.OnLiterals.{serde_json_on_literals}
use Rattle.hex.specs.Hex.{encode_upper, IsBytes}
use Rattle.erp1_telegrams.specs.declared.eep.Eep.{Eep}
use Rattle.profile_rows.specs.Reading.{Meaning, value, word, raw, out_of_range, Entry}
use Rattle.learned_devices.specs.declared.Device.{Device}
use Rattle.teach_in.specs.declared.mode.Mode.{Mode}
use Rattle.teach_in.specs.declared.mode.Mode.TheVariants.{Closed, Learn, LearnAnswer, LearnAs}
use Rattle.teach_in.specs.declared.outcome.Outcome.{Outcome}
use Rattle.gateway_state.specs.declared.counts.Counts.{Counts}
use Rattle.json_lines.specs.Lines.{DeskLine, TeachLine, ModuleResponse, text, text_or_null, in_quotes, member_text}
use Rattle.json_lines.specs.Lines.{object_text, Teach, DeviceLine, ListEnd, StatusLine, ResponseLine, eep_string}
use Rattle.json_lines.specs.Lines.{outcome_word, mode_word, return_code_names, ReadingLine, Reading, dbm_text}
use Rattle.json_lines.specs.Lines.{reading_text, entry_object_text}
use Rattle.json_lines.specs.private.LineData.{NeedsNoEscape, IsLineOf, value_or_null as data_or_null, members}
use Rattle.json_lines.specs.private.LineData.{object_of, number_data, profile_data, teach_members, device_members}
use Rattle.json_lines.specs.private.LineData.{list_end_members, status_members, response_members, dbm_data}
use Rattle.json_lines.specs.private.LineData.{named_members, named_data, entry_data, entries_data, reading_members}
use Rattle.json_lines.proofs.HexTexts.{plain-id, plain-eep, plain-learn_as_text, plain_bytes}

-- ---- an object

-- the members with the texts of their values
abbrev named_texts : List (List ℕ × Data) → List (List ℕ × List ℕ)
named_texts ms = map (λ m. (m.0, compact_text m.1)) ms

abbrev ArePlain : List (List ℕ × Data) → Type 0
ArePlain ms = AllByRecursion (λ m. NeedsNoEscape m.0) ms

-- a member, as the writer and as the definition group it
quoted-member_text : (name text rest : List ℕ) → NeedsNoEscape name
    → quoted name ++ 58 ∷ (text ++ rest) ≡ member_text (name, text) ++ rest
quoted-member_text name text rest plain =
    let regrouped = ap (λ (t : List ℕ). t ++ rest) (append_assoc (in_quotes name) (codes ":") text)
    ∙ append_assoc (in_quotes name) (codes ":" ++ text) rest in
    rw plain (sym regrouped)

-- the members after the first, each with a comma before it
members-after_first : (ms : List (List ℕ × Data)) → ArePlain ms
    → members_text true (members ms) ≡ flat_map (λ m. codes "," ++ member_text m) (named_texts ms) ++ codes "}"
members-after_first [] plain = refl
members-after_first (m ∷ ms) plain =
    ap (λ (rest : List ℕ). codes "," ++ (quoted m.0 ++ 58 ∷ (compact_text m.1 ++ rest)))
    (members-after_first ms plain.1)
    ∙ ap (λ (text : List ℕ). codes "," ++ text) (quoted-member_text m.0 (compact_text m.1) _ plain.0)
    ∙ sym (append_assoc (codes "," ++ member_text (m.0, compact_text m.1)) _ _)

-- an object has the text of its members
object_written : (ms : List (List ℕ × Data)) → ArePlain ms → compact_text (object_of ms) ≡ object_text (named_texts ms)
object_written [] plain = refl
object_written (m ∷ ms) plain =
    ap (λ (rest : List ℕ). codes "{" ++ (quoted m.0 ++ 58 ∷ (compact_text m.1 ++ rest)))
    (members-after_first ms plain.1)
    ∙ ap (λ (text : List ℕ). codes "{" ++ text) (quoted-member_text m.0 (compact_text m.1) _ plain.0)
    ∙ ap (λ (text : List ℕ). codes "{" ++ text) (sym (append_assoc (member_text (m.0, compact_text m.1)) _ _))

-- the line of what an object sends, if its members have the texts of this line
line_written : (ms : List (List ℕ × Data)) (line : DeskLine) (bytes : List ℕ) → ArePlain ms
    → has_float (object_of ms) ≡ false → object_text (named_texts ms) ++ codes "\n" ≡ text line
    → IsLineOf (SendsValue (object_of ms)) bytes → bytes ≡ text line
line_written ms line bytes plain whole same sent =
    let made = text_of_value (object_of ms) sent.log sent.text sent.log_written sent.made whole in
    sent.ends ∙ ap (λ (text : List ℕ). text ++ codes "\n") (made ∙ object_written ms plain) ∙ same

-- ---- the parts of the lines

text-or_null : {A : Type 0} (data_of : A → Data) (text_of : A → List ℕ)
    → ((known : A) → compact_text (data_of known) ≡ text_of known)
    → (known : Option A) → compact_text (data_or_null data_of known) ≡ text_or_null text_of known
text-or_null data_of text_of same None = refl
text-or_null data_of text_of same (Some known) = same known

no_float-or_null : {A : Type 0} (data_of : A → Data) → ((known : A) → has_float (data_of known) ≡ false)
    → (known : Option A) → has_float (data_or_null data_of known) ≡ false
no_float-or_null data_of whole None = refl
no_float-or_null data_of whole (Some known) = whole known

-- an integer's text is its digits
digits_of : (z : ℤ) → number_text (of_integer z) ≡ signed_decimal z
digits_of (pos n) = refl
digits_of (negsuc n) = refl

no_float-integer : (z : ℤ) → is_float (of_integer z) ≡ false
no_float-integer (pos n) = refl
no_float-integer (negsuc n) = refl

text-dbm : (dbm : Option ℕ) → compact_text (data_or_null dbm_data dbm) ≡ text_or_null dbm_text dbm
text-dbm = text-or_null dbm_data dbm_text (λ byte. digits_of (pos 0 -ℤ pos byte))

no_float-dbm : (dbm : Option ℕ) → has_float (data_or_null dbm_data dbm) ≡ false
no_float-dbm = no_float-or_null dbm_data (λ byte. no_float-integer (pos 0 -ℤ pos byte))

text-maker : (maker : Option ℕ) → compact_text (data_or_null number_data maker) ≡ text_or_null decimal maker
text-maker = text-or_null number_data decimal (λ maker. refl)

no_float-maker : (maker : Option ℕ) → has_float (data_or_null number_data maker) ≡ false
no_float-maker = no_float-or_null number_data (λ maker. refl)

text-known_profile : (eep : Option Eep) → compact_text (data_or_null profile_data eep) ≡ text_or_null eep_string eep
text-known_profile = text-or_null profile_data eep_string (λ eep. ap in_quotes (plain-eep eep))

no_float-known_profile : (eep : Option Eep) → has_float (data_or_null profile_data eep) ≡ false
no_float-known_profile = no_float-or_null profile_data (λ eep. refl)

-- the words need no escape
plain-outcome : (outcome : Outcome) → NeedsNoEscape (outcome_word outcome)
unfolding serde_json_on_literals
plain-outcome outcome = search rules

plain-mode : (mode : Mode) → NeedsNoEscape (mode_word mode)
unfolding serde_json_on_literals
plain-mode Closed = refl
plain-mode Learn = refl
plain-mode LearnAnswer = refl
plain-mode (LearnAs eep) = plain-learn_as_text eep

text-name : (code : ℕ)
    → compact_text (data_or_null string (slice_get return_code_names code)) ≡ text_or_null in_quotes
    (slice_get return_code_names code)
unfolding serde_json_on_literals
text-name code = search rules

-- ---- the list of readings

text-named : (name : List ℕ) (meaning : Meaning) → compact_text (named_data name meaning) ≡ reading_text name meaning
unfolding serde_json_on_literals
text-named name (value ratio unit) =
    object_written (named_members name (value ratio unit)) (refl, (refl, (refl, (refl, tt))))
    ∙ rw (digits_of ratio.num) refl
text-named name (word text) = object_written (named_members name (word text)) (refl, (refl, tt))
text-named name (raw n) = object_written (named_members name (raw n)) (refl, (refl, tt))
text-named name (out_of_range n) = object_written (named_members name (out_of_range n)) (refl, (refl, tt))

text-entry : (entry : Entry) → compact_text (entry_data entry) ≡ entry_object_text entry
text-entry entry = text-named entry.name entry.meaning

no_float-entry : (entry : Entry) → has_float (entry_data entry) ≡ false
no_float-entry entry = search (rules, no_float-integer)

-- the entries after the first, each with a comma before it
text-rest : (list : List Entry)
    → items_text true (entries_data list) ≡ flat_map (λ entry. codes "," ++ entry_object_text entry) list ++ codes "]"
text-rest [] = refl
text-rest (entry ∷ list) =
    ap₂ (λ text rest. codes "," ++ (text ++ rest)) (text-entry entry) (text-rest list)
    ∙ sym (append_assoc (codes "," ++ entry_object_text entry) _ _)

text-items : (list : List Entry)
    → items_text false (entries_data list) ≡ join_by entry_object_text (codes ",") list ++ codes "]"
text-items [] = refl
text-items (entry ∷ list) =
    ap₂ (λ text rest. text ++ rest) (text-entry entry) (text-rest list)
    ∙ sym (append_assoc (entry_object_text entry) _ _)

no_float-items : (list : List Entry) → items_have_float (entries_data list) ≡ false
no_float-items [] = refl
no_float-items (entry ∷ list) = rw (no_float-entry entry) (no_float-items list)

-- ---- the lines

pub reading_written : (line : ReadingLine) (bytes : List ℕ)
    → IsLineOf (SendsValue (object_of (reading_members line))) bytes → bytes ≡ text (Reading line)
unfolding serde_json_on_literals
reading_written line bytes =
    line_written (reading_members line) (Reading line) bytes (refl, (refl, (refl, (refl, (refl, tt)))))
    (rw (no_float-dbm line.dbm, no_float-items line.readings) refl)
    (rw (text-dbm line.dbm, plain-eep line.eep, plain-id line.id, text-items line.readings) refl)

pub teach_written : (line : TeachLine) (bytes : List ℕ) → IsLineOf (SendsValue (object_of (teach_members line))) bytes
    → bytes ≡ text (Teach line)
unfolding serde_json_on_literals
teach_written line bytes =
    line_written (teach_members line) (Teach line) bytes (refl, (refl, (refl, (refl, (refl, tt)))))
    (rw (no_float-known_profile line.eep, no_float-maker line.maker) refl)
    (rw (text-known_profile line.eep, plain-id line.id, text-maker line.maker, plain-outcome line.outcome) refl)

pub device_written : (known : Device) (bytes : List ℕ) → IsLineOf (SendsValue (object_of (device_members known))) bytes
    → bytes ≡ text (DeviceLine known)
unfolding serde_json_on_literals
device_written known bytes =
    line_written (device_members known) (DeviceLine known) bytes (refl, (refl, (refl, (refl, (refl, tt)))))
    (rw (no_float-maker known.maker) refl) (rw (plain-eep known.eep, plain-id known.id, text-maker known.maker) refl)

pub list_written : (count : ℕ) (bytes : List ℕ) → IsLineOf (SendsValue (object_of (list_end_members count))) bytes
    → bytes ≡ text (ListEnd count)
unfolding serde_json_on_literals
list_written count bytes = line_written (list_end_members count) (ListEnd count) bytes (refl, (refl, tt)) refl refl

pub status_written : (counts : Counts) (mode : Mode) (bytes : List ℕ)
    → IsLineOf (SendsValue (object_of (status_members counts mode))) bytes → bytes ≡ text (StatusLine counts mode)
unfolding serde_json_on_literals
status_written counts mode bytes =
    line_written (status_members counts mode) (StatusLine counts mode) bytes
    (refl, (refl, (refl, (refl, (refl, (refl, (refl, tt))))))) refl (rw (plain-mode mode) refl)

pub response_written : (response : ModuleResponse) (line : List ℕ) → IsBytes response.bytes
    → IsLineOf (SendsValue (object_of (response_members response.code (encode_upper response.bytes)))) line
    → line ≡ text (ResponseLine response)
unfolding serde_json_on_literals
response_written response line bytes =
    line_written (response_members response.code (encode_upper response.bytes)) (ResponseLine response) line
    (refl, (refl, (refl, (refl, tt))))
    (rw (no_float-or_null string (λ name. refl) (slice_get return_code_names response.code)) refl)
    (rw (plain_bytes response.bytes bytes, text-name response.code) refl)

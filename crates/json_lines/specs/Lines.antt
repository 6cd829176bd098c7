-- The lines for the desk, as values, and their texts, as bytes. Which lines there are, and their layout, is an own
-- choice: one JSON object (RFC 8259) with no space between its parts, its members in the byte order of their names, and
-- a line feed at the end.
use Rattle.std.specs.Prelude.{ℕ, pos, ◌-ℤ◌, List, [], ◌∷◌, ◌++◌, map, length, slice_get, codes, decimal}
use Rattle.std.specs.Prelude.{Option, Some, None, IfSome, if◌then◌else◌, ◌<◌, ◌^◌}
use Rattle.std.specs.Fmt.{signed_decimal}
use Rattle.std.specs.Int.{w8, w32, to_be_bytes}
use Rattle.std.specs.List.{join_by, flat_map}
use Rattle.json.specs.Print.{quoted}
use Rattle.hex.specs.Hex.{encode_upper}
use Rattle.erp1_telegrams.specs.declared.eep.Eep.{Eep}
use Rattle.profile_rows.specs.Reading.{Meaning, value, word, raw, out_of_range, Entry}
use Rattle.learned_devices.specs.declared.Device.{Device}
use Rattle.teach_in.specs.declared.mode.Mode.{Mode}
use Rattle.teach_in.specs.declared.mode.Mode.TheVariants.{Closed, Learn, LearnAnswer, LearnAs}
use Rattle.teach_in.specs.declared.outcome.Outcome.{Outcome}
use Rattle.teach_in.specs.declared.outcome.Outcome.TheVariants.{Accepted, Deleted, Unsupported, General, NoProfile}
use Rattle.teach_in.specs.declared.outcome.Outcome.TheVariants as outcome
use Rattle.desk_orders.specs.declared.orders.OrderFault.TheVariants.{Syntax, Range, UnknownDevice, WrongProfile}
use Rattle.gateway_state.specs.declared.counts.Counts.{Counts}
use Rattle.gateway_state.specs.declared.error_reason.ErrorReason.{ErrorReason}
use Rattle.gateway_state.specs.declared.error_reason.ErrorReason.TheVariants.{Order, TooLong, UnsupportedProfile, Failed}
use Rattle.gateway_state.specs.declared.error_reason.ErrorReason.TheVariants as error

-- ---- the content of a line

-- the readings of a telegram: its signal strength, if known, the profile and the ID of its sender, and the readings
pub record ReadingLine : Type 0 where
  pub dbm : Option ℕ
  pub eep : Eep
  pub id : ℕ
  pub readings : List Entry

-- the outcome for a sender: its profile, if known, its ID, its manufacturer ID, if known, and the outcome
pub record TeachLine : Type 0 where
  pub eep : Option Eep
  pub id : ℕ
  pub maker : Option ℕ
  pub outcome : Outcome

-- a response of the radio module: a return code, and the bytes after it (EnOcean Serial Protocol 3, "Packet type 2:
-- RESPONSE")
pub record ModuleResponse : Type 0 where
  pub code : ℕ
  pub bytes : List ℕ

-- a line: the readings of a telegram; the outcome for a sender; a learned device; the end of a list of this many
-- devices; the counters and the learn mode; a response of the radio module; an acknowledged order; an error. Own choice
pub data DeskLine : Type 0 where
  Reading : (line : ReadingLine) → DeskLine
  Teach : (line : TeachLine) → DeskLine
  DeviceLine : (known : Device) → DeskLine
  ListEnd : (count : ℕ) → DeskLine
  StatusLine : (counts : Counts) (mode : Mode) → DeskLine
  ResponseLine : (response : ModuleResponse) → DeskLine
  Done : DeskLine
  Error : (reason : ErrorReason) → DeskLine

-- the numbers of a teach line are in the ranges of those of a device and of a query: three bytes of a profile, four of
-- an ID, and at most two of a maker
abbrev pub HasNumbersInRange : TeachLine → Type 0
HasNumbersInRange line =
    IfSome line.eep (λ eep. (eep.rorg < 256) × (eep.func < 256) × (eep.typ < 256))
    × (line.id < 2 ^ 32) × IfSome line.maker (λ maker. maker < 2 ^ 16)

-- ---- the parts of a line

-- a text in quotation marks, without escapes (RFC 8259, "Strings")
abbrev pub in_quotes : (text : List ℕ) → List ℕ
in_quotes text = codes "\"" ++ text ++ codes "\""

-- a member of an object: its name, and the text of its value (RFC 8259, "Objects")
abbrev pub member_text : List ℕ × List ℕ → List ℕ
member_text member = in_quotes member.0 ++ codes ":" ++ member.1

-- the members in their order, with a comma between each two (RFC 8259, "Objects")
abbrev pub object_text : List (List ℕ × List ℕ) → List ℕ
object_text members = codes "{" ++ join_by member_text (codes ",") members ++ codes "}"

-- the text of a value that may be unknown. Own choice: then it is null
abbrev pub text_or_null : {A : Type 0} → (A → List ℕ) → Option A → List ℕ
text_or_null text_of None = codes "null"
text_or_null text_of (Some known) = text_of known

-- a byte as two upper-case hexadecimal digits. Own choice
abbrev pub byte_text : (byte : ℕ) → List ℕ
byte_text byte = encode_upper (to_be_bytes w8 byte)

-- an ID as 8 upper-case hexadecimal digits. Own choice
abbrev pub id_text : (id : ℕ) → List ℕ
id_text id = encode_upper (to_be_bytes w32 id)

-- a profile by the three numbers that EnOcean Equipment Profiles 2.6 gives it, with `-` between them
abbrev pub eep_text : Eep → List ℕ
eep_text eep = byte_text eep.rorg ++ codes "-" ++ byte_text eep.func ++ codes "-" ++ byte_text eep.typ

-- a profile as a string. Own choice
abbrev pub eep_string : Eep → List ℕ
eep_string eep = in_quotes (eep_text eep)

-- the signal strength in dBm: 0 minus the byte (EnOcean Serial Protocol 3, "Packet type 1: RADIO_ERP1")
abbrev pub dbm_text : (byte : ℕ) → List ℕ
dbm_text byte = signed_decimal (pos 0 -ℤ pos byte)

-- a reading as an object: a value in a unit, a word, a number, or a number out of range. Own choice. `quoted` writes
-- the shortest escapes (RFC 8259, "Strings")
abbrev pub reading_text : (name : List ℕ) → Meaning → List ℕ
reading_text name (value ratio unit) = object_text (
    (codes "den", decimal ratio.den)
    ∷ (codes "name", quoted name)
    ∷ (codes "num", signed_decimal ratio.num)
    ∷ (codes "unit", quoted unit) ∷ [])
reading_text name (word text) = object_text ((codes "name", quoted name) ∷ (codes "word", quoted text) ∷ [])
reading_text name (raw n) = object_text ((codes "name", quoted name) ∷ (codes "raw", decimal n) ∷ [])
reading_text name (out_of_range n) = object_text ((codes "name", quoted name) ∷ (codes "out_of_range", decimal n) ∷ [])

-- an entry: a reading under a name. Own choice
abbrev pub entry_object_text : Entry → List ℕ
entry_object_text entry = reading_text entry.name entry.meaning

-- the entries in their order, with a comma between each two (RFC 8259, "Arrays")
abbrev pub readings_array_text : List Entry → List ℕ
readings_array_text list = codes "[" ++ join_by entry_object_text (codes ",") list ++ codes "]"

-- the outcome's word. Own choice
abbrev pub outcome_word : Outcome → List ℕ
outcome_word Accepted = codes "accepted"
outcome_word Deleted = codes "deleted"
outcome_word Unsupported = codes "unsupported"
outcome_word outcome.Full = codes "full"
outcome_word General = codes "general"
outcome_word NoProfile = codes "no_profile"

-- the word of the mode that learns with this profile. Own choice
abbrev pub learn_as_text : Eep → List ℕ
learn_as_text eep = codes "as " ++ eep_text eep

-- the mode's word. Own choice
abbrev pub mode_word : Mode → List ℕ
mode_word Closed = codes "closed"
mode_word Learn = codes "on"
mode_word LearnAnswer = codes "answer"
mode_word (LearnAs eep) = learn_as_text eep

-- the names of the return codes from 0 on (EnOcean Serial Protocol 3, "Packet type 2: RESPONSE"). Own choice: other
-- codes have none
abbrev pub return_code_names : List (List ℕ)
return_code_names =
    codes "OK" ∷ codes "ERROR" ∷ codes "NOT_SUPPORTED" ∷ codes "WRONG_PARAM" ∷ codes "OPERATION_DENIED" ∷ []

-- the error's name. Own choice
abbrev pub error_word : ErrorReason → List ℕ
error_word (Order Syntax) = codes "syntax"
error_word (Order Range) = codes "range"
error_word (Order UnknownDevice) = codes "unknown_device"
error_word (Order WrongProfile) = codes "wrong_profile"
error_word TooLong = codes "too_long"
error_word error.Full = codes "full"
error_word UnsupportedProfile = codes "unsupported_profile"
error_word (Failed fault) = if fault.is_memory then codes "memory" else codes "store"

-- ---- the lines

-- the members of a line: their names, and the texts of their values. Own choice
abbrev pub members_of : DeskLine → List (List ℕ × List ℕ)
members_of (Reading line) =
    (codes "dbm", text_or_null dbm_text line.dbm)
    ∷ (codes "eep", eep_string line.eep)
    ∷ (codes "id", in_quotes (id_text line.id))
    ∷ (codes "readings", readings_array_text line.readings)
    ∷ (codes "type", in_quotes (codes "reading")) ∷ []
members_of (Teach line) =
    (codes "eep", text_or_null eep_string line.eep)
    ∷ (codes "id", in_quotes (id_text line.id))
    ∷ (codes "maker", text_or_null decimal line.maker)
    ∷ (codes "result", in_quotes (outcome_word line.outcome))
    ∷ (codes "type", in_quotes (codes "teach")) ∷ []
members_of (DeviceLine known) =
    (codes "eep", eep_string known.eep)
    ∷ (codes "id", in_quotes (id_text known.id))
    ∷ (codes "label", quoted known.label)
    ∷ (codes "maker", text_or_null decimal known.maker)
    ∷ (codes "type", in_quotes (codes "device")) ∷ []
members_of (ListEnd count) = (codes "count", decimal count) ∷ (codes "type", in_quotes (codes "list")) ∷ []
members_of (StatusLine counts mode) =
    (codes "ignored", decimal counts.ignored)
    ∷ (codes "mode", in_quotes (mode_word mode))
    ∷ (codes "readings", decimal counts.readings)
    ∷ (codes "refused", decimal counts.refused)
    ∷ (codes "responses", decimal counts.responses)
    ∷ (codes "teach", decimal counts.teach)
    ∷ (codes "type", in_quotes (codes "status")) ∷ []
members_of (ResponseLine response) =
    (codes "code", decimal response.code)
    ∷ (codes "data", in_quotes (encode_upper response.bytes))
    ∷ (codes "name", text_or_null in_quotes (slice_get return_code_names response.code))
    ∷ (codes "type", in_quotes (codes "response")) ∷ []
members_of Done = (codes "type", in_quotes (codes "ok")) ∷ []
members_of (Error name) =
    (codes "error", in_quotes (error_word name)) ∷ (codes "type", in_quotes (codes "error")) ∷ []

-- the text of a line: one object, and a line feed. Own choice
abbrev pub text : DeskLine → List ℕ
text line = object_text (members_of line) ++ codes "\n"

-- the text of lines, in their order. Own choice
abbrev pub texts : List DeskLine → List ℕ
texts = flat_map text

-- a line for each device, and then a line with their count. Own choice
abbrev pub list_lines : List Device → List DeskLine
list_lines known = map DeviceLine known ++ ListEnd (length known) ∷ []

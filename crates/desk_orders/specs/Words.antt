-- The words of an order, and the texts that spell them.
use Rattle.std.specs.Prelude.{◌≡◌, ◌≢◌, ℕ, ◌<◌, ◌≤◌, ◌==◌, ◌&&◌, Bool, true, false, not, if◌then◌else◌, List, [], ◌∷◌}
use Rattle.std.specs.Prelude.{◌++◌, codes, bytes_eq, nat_le, length, Option, Some, None, Result, Ok, Err}
use Rattle.std.specs.Borrow.{Bor}
use Rattle.std.specs.Char.{is_ascii_digit}
use Rattle.std.specs.Fmt.{decimal}
use Rattle.std.specs.Int.{w32, from_be_bytes}
use Rattle.std.specs.List.{join_with_byte, list_all, slice_split}
use Rattle.std.specs.Option.{option_and_then, option_map, option_map_or}
use Rattle.std.specs.Str.Parse.{digits_value}
use Rattle.hex.specs.Hex.{decode_of, decode_sized}
use Rattle.hex.specs.declared.error.FromHexError.{FromHexError}
use Rattle.erp1_telegrams.specs.declared.eep.Eep.{Eep}
use Rattle.learned_devices.specs.Labels.{max_label, is_label_of_any_length}
use Rattle.desk_orders.specs.declared.orders.Quantity.{Quantity}
use Rattle.desk_orders.specs.declared.orders.Quantity.TheVariants.{Energy, Power}

-- A word of an order: a fixed text, an ID, a profile, a number, which is in range up to `most`, or the text of a label,
-- which may contain spaces. Own choice.
pub data Word : Type 0 where
  Literal : (text : List ℕ) → Word
  Id : (id : ℕ) → Word
  Profile : (eep : Eep) → Word
  Number : (most n : ℕ) → Word
  LabelText : (name : List ℕ) → Word

-- the words for on and off, and for the quantities that are measured. Own choice.
abbrev pub state_name : (is_on : Bool) → List ℕ
state_name true = codes "on"
state_name false = codes "off"

abbrev pub quantity_name : Quantity → List ℕ
quantity_name Energy = codes "energy"
quantity_name Power = codes "power"

-- an ID (EnOcean Serial Protocol 3, "Packet type 1: RADIO_ERP1"): its four bytes as eight hexadecimal digits, the high
-- byte first. Own choice: in upper or lower case
abbrev pub SpellsId : (digits : List ℕ) (id : ℕ) → Type 0
SpellsId digits id =
    (bytes : List ℕ) × (length bytes ≡ 4) × (decode_of digits ≡ Ok bytes) × (id ≡ from_be_bytes w32 bytes)

-- the name of a profile (EnOcean Equipment Profiles 2.6, "Structure"): three pairs of hexadecimal digits with `-`
-- between them. Own choice: in upper or lower case
pub record SpellsEep (text : List ℕ) (eep : Eep) : Type 0 where
  pub rorg : List ℕ
  pub func : List ℕ
  pub typ : List ℕ
  pub whole : text ≡ rorg ++ codes "-" ++ func ++ codes "-" ++ typ
  pub is_rorg : decode_of rorg ≡ Ok (eep.rorg ∷ [])
  pub is_func : decode_of func ≡ Ok (eep.func ∷ [])
  pub is_typ : decode_of typ ≡ Ok (eep.typ ∷ [])

-- a number in decimal digits, without a sign or leading zeros. Own choice: at most five digits
abbrev pub SpellsNumber : (text : List ℕ) → ℕ → Type 0
SpellsNumber text n = (text ≡ decimal n) × (n < 100000)

-- whether a text is a non-empty label, ignoring its length. Own choice.
abbrev pub is_nonempty_label : List ℕ → Bool
is_nonempty_label [] = false
is_nonempty_label (first ∷ more) = is_label_of_any_length (first ∷ more)

-- the text spells the word
abbrev pub SpellsWord : (text : List ℕ) → Word → Type 0
SpellsWord text (Literal name) = text ≡ name
SpellsWord text (Id id) = SpellsId text id
SpellsWord text (Profile eep) = SpellsEep text eep
SpellsWord text (Number most n) = SpellsNumber text n
SpellsWord text (LabelText name) = (text ≡ name) × (is_nonempty_label name ≡ true)

-- the word's number is in range, or its length; no device has the broadcast ID (EnOcean Serial Protocol 3, "Packet type
-- 1: RADIO_ERP1")
abbrev pub IsWordInRange : Word → Type 0
IsWordInRange (Literal name) = Unit {0}
IsWordInRange (Id id) = id ≢ 0xFFFF_FFFF
IsWordInRange (Profile eep) = Unit {0}
IsWordInRange (Number most n) = n ≤ most
IsWordInRange (LabelText name) = length name ≤ max_label

-- ---- the same as functions; theorems `ids_are_spelled` and `orders_are_spelled`: they agree

-- the words of a line: its parts before, between and after its spaces; two spaces have an empty word between them,
-- which is a word of no order
abbrev pub words : List ℕ → List (List ℕ)
words = slice_split (λ b. b == 32)

-- the words of the rest of a line, if there is one
abbrev pub remaining_words : Option (Bor (List ℕ)) → List (List ℕ)
remaining_words left = option_map_or (λ rest. words rest.now) left []

-- whether the word's number, or its length, is in range
abbrev pub is_word_in_range : Word → Bool
is_word_in_range (Literal name) = true
is_word_in_range (Id id) = not (id == 0xFFFF_FFFF)
is_word_in_range (Profile eep) = true
is_word_in_range (Number most n) = nat_le n most
is_word_in_range (LabelText name) = nat_le (length name) max_label

-- the number of two hexadecimal digits
abbrev pub byte_of_decoded : Result (List ℕ) FromHexError → Option ℕ
byte_of_decoded (Ok (byte ∷ [])) = Some byte
byte_of_decoded decoded = None

abbrev pub byte_in : (digits : List ℕ) → Option ℕ
byte_in digits = byte_of_decoded (decode_sized digits 1)

abbrev pub id_of_decoded : Result (List ℕ) FromHexError → Option ℕ
id_of_decoded (Ok bytes) = Some (from_be_bytes w32 bytes)
id_of_decoded (Err fault) = None

-- the ID that a text spells
abbrev pub id_in : (digits : List ℕ) → Option ℕ
id_in digits = id_of_decoded (decode_sized digits 4)

abbrev pub eep_of_bytes : (rorg func typ : Option ℕ) → Option Eep
eep_of_bytes (Some rorg) (Some func) (Some typ) = Some (record { rorg = rorg; func = func; typ = typ })
eep_of_bytes rorg func typ = None

-- the profile that a text spells
abbrev pub eep_in : (text : List ℕ) → Option Eep
eep_in (a ∷ b ∷ x ∷ c ∷ d ∷ y ∷ e ∷ f ∷ []) =
    if x == 45 && y == 45 then eep_of_bytes (byte_in (a ∷ b ∷ [])) (byte_in (c ∷ d ∷ []))
    (byte_in (e ∷ f ∷ [])) else None
eep_in text = None

-- the state and the quantity that a text spells
abbrev pub state_in : (text : List ℕ) → Option Bool
state_in text =
    if bytes_eq text (codes "on") then Some true else if bytes_eq text (codes "off") then Some false else None

abbrev pub quantity_in : (text : List ℕ) → Option Quantity
quantity_in text =
    if bytes_eq text (codes "energy") then Some Energy
    else if bytes_eq text (codes "power") then Some Power
    else None

-- whether there is no zero before another digit
abbrev pub has_no_leading_zero : List ℕ → Bool
has_no_leading_zero [] = false
has_no_leading_zero (first ∷ []) = true
has_no_leading_zero (first ∷ second ∷ more) = not (first == 48)

-- whether a text is `0`, or up to five digits that do not begin with 0
abbrev pub is_short_decimal : (text : List ℕ) → Bool
is_short_decimal text = has_no_leading_zero text && nat_le (length text) 5 && list_all is_ascii_digit text

-- the number that a text spells
abbrev pub number_in : (text : List ℕ) → Option ℕ
number_in text = if is_short_decimal text then Some (digits_value 10 text) else None

-- the text of a label that a text spells
abbrev pub label_if_well_formed : (text : List ℕ) → Option (List ℕ)
label_if_well_formed text = if is_nonempty_label text then Some text else None

-- the label in the remaining words of a line, with the spaces between them: the empty one if there are none
abbrev pub label_in : List (List ℕ) → Option (List ℕ)
label_in [] = Some []
label_in (first ∷ more) = label_if_well_formed (join_with_byte 32 (first ∷ more))

-- a value made of two words or of three, if each can be read
abbrev pub map_two : {A B C : Type 0} → (A → B → C) → Option A → Option B → Option C
map_two make a b = option_and_then (λ x. option_map (make x) b) a

abbrev pub map_three : {A B C D : Type 0} → (A → B → C → D) → Option A → Option B → Option C → Option D
map_three make a b c = option_and_then (λ x. map_two (make x) b c) a

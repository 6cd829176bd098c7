-- Hexadecimal digits, and so the texts of IDs, profiles and bytes, are ASCII and need no escape in a JSON string.
use Rattle.std.proofs.Common.{◌≡◌, ℕ, zero, suc, ◌<◌, ◌/◌, ◌%◌, ◌++◌, List, [], ◌∷◌, Bool, true, codes, ◌&&◌}
use Rattle.std.proofs.Common.{slice_index, length, take, get_or, inl, inr, IsAscii, refl, ap, ap₂, ◌∙◌, arith}
use Rattle.std.specs.List.{AllByRecursion}
use Rattle.std.specs.Prelude.{nat_lt}
use Rattle.std.proofs.lemmas.Bool.{and_parts, cases_lt, ltb-true}
use Rattle.std.proofs.lemmas.Grind.{flat_map-append}
use Rattle.std.proofs.lemmas.Str.{IsAscii-append}
use Rattle.std.proofs.lemmas.Str.Ascii.{IsAscii-from_reads}
use Rattle.std.specs.Int.{w8, w32, to_be_bytes}
use Rattle.json.specs.Print.{escape_byte}
use Rattle.json.proofs.Printed.Strings.{escape_byte_plain}
use Rattle.hex.specs.Hex.{upper_digits, encode_with, encode_upper, IsBytes}
use Rattle.hex.proofs.HexLemmas.{IsAscii-encode_with}
use Rattle.erp1_telegrams.specs.declared.eep.Eep.{Eep}
use Rattle.json_lines.specs.Lines.{byte_text, id_text, eep_text, learn_as_text}
use Rattle.json_lines.specs.private.LineData.{NeedsNoEscape}

-- ---- one digit

-- a test holds for each number below n; it computes
abbrev pub holds_below : (ℕ → Bool) → ℕ → Bool
holds_below test zero = true
holds_below test (suc n) = test n && holds_below test n

pub holds_below-at : (test : ℕ → Bool) (n k : ℕ) → holds_below test n ≡ true → k < n → test k ≡ true
holds_below-at test zero k h below = absurd (omega arith)
holds_below-at test (suc n) k h below =
    let parts = and_parts (test n) (holds_below test n) h in
    elim (cases_lt k n) [
      | inl lower ↦ holds_below-at test n k parts.1 lower
      | inr top ↦ let last : k ≡ n = omega arith in rw last parts.0
    ]

-- a digit is after the comma and the slash, and before the backslash
abbrev is_between : ℕ → Bool
is_between digit = nat_lt 47 (slice_index upper_digits digit) && nat_lt (slice_index upper_digits digit) 92

pub between : (digit : ℕ) → digit < 16 → (47 < slice_index upper_digits digit) × (slice_index upper_digits digit < 92)
between digit below =
    let (above, under) = and_parts (nat_lt 47 (slice_index upper_digits digit)) _
    (holds_below-at is_between 16 digit refl below) in
    (ltb-true 47 (slice_index upper_digits digit) above, ltb-true (slice_index upper_digits digit) 92 under)

plain-digit : (digit : ℕ) → digit < 16
    → escape_byte (slice_index upper_digits digit) ≡ slice_index upper_digits digit ∷ []
plain-digit digit below =
    let lies = between digit below in
    escape_byte_plain (slice_index upper_digits digit) (λ e. omega arith) (λ e. omega arith) (omega arith)

-- ---- the digits of bytes

pub plain_bytes : (bytes : List ℕ) → IsBytes bytes → NeedsNoEscape (encode_upper bytes)
unfolding encode_with
plain_bytes [] h = refl
plain_bytes (byte ∷ rest) h =
    let high = plain-digit (byte / 16) (omega (arith, h 0)) in
    let low = plain-digit (byte % 16) (omega arith) in
    rw (high, low, plain_bytes rest (λ i. h (suc i))) refl

-- the digits of one more byte
pub encode_upper-more : (bytes : List ℕ) (i : ℕ) → IsBytes bytes → i < length bytes
    → encode_upper (take (suc i) bytes) ≡ encode_upper (take i bytes) ++ byte_text (get_or bytes i 0)
unfolding encode_with
encode_upper-more [] i h below = absurd (omega arith)
encode_upper-more (byte ∷ rest) zero h below =
    let fits : byte % 256 ≡ byte = omega (arith, h 0) in rw fits refl
encode_upper-more (byte ∷ rest) (suc i) h below =
    ap (λ (digits : List ℕ). slice_index upper_digits (byte / 16) ∷ slice_index upper_digits (byte % 16) ∷ digits)
    (encode_upper-more rest i (λ k. h (suc k)) (omega arith))

ascii-upper_digits : IsAscii upper_digits
ascii-upper_digits =
    IsAscii-from_reads upper_digits 16 (omega arith) (λ digit below. let range = between digit below in omega arith)

pub ascii-encode_upper : (bytes : List ℕ) → IsAscii (encode_upper bytes)
ascii-encode_upper bytes = IsAscii-encode_with upper_digits bytes ascii-upper_digits

-- ---- IDs and profiles

-- if each number of a list is below a limit, so is the one read at any index
all_below : (limit : ℕ) (ns : List ℕ) → 0 < limit → AllByRecursion (λ n. n < limit) ns
    → (i : ℕ) → slice_index ns i < limit
all_below limit [] positive h i = positive
all_below limit (n ∷ ns) positive h zero = h.0
all_below limit (n ∷ ns) positive h (suc i) = all_below limit ns positive h.1 i

-- what holds for the texts of bytes and of a dash, and for two concatenated texts, holds for a profile's text
pub on_eep : (P : List ℕ → Type 0) → ((a b : List ℕ) → P a → P b → P (a ++ b)) → P (codes "-")
    → ((byte : ℕ) → P (byte_text byte)) → (eep : Eep) → P (eep_text eep)
on_eep P append dash of_byte eep =
    let rorg = append (byte_text eep.rorg) (codes "-") (of_byte eep.rorg) dash in
    let func = append (byte_text eep.rorg ++ codes "-") (byte_text eep.func) rorg (of_byte eep.func) in
    append (byte_text eep.rorg ++ codes "-" ++ byte_text eep.func ++ codes "-") (byte_text eep.typ)
    (append (byte_text eep.rorg ++ codes "-" ++ byte_text eep.func) (codes "-") func dash) (of_byte eep.typ)

pub plain-append : (a b : List ℕ) → NeedsNoEscape a → NeedsNoEscape b → NeedsNoEscape (a ++ b)
plain-append a b ha hb = flat_map-append escape_byte a b ∙ ap₂ (λ x y. x ++ y) ha hb

pub byte_bytes : (byte : ℕ) → IsBytes (to_be_bytes w8 byte)
byte_bytes byte = all_below 256 (to_be_bytes w8 byte) (omega arith) (omega arith, tt)

pub id_bytes : (id : ℕ) → IsBytes (to_be_bytes w32 id)
id_bytes id = all_below 256 (to_be_bytes w32 id) (omega arith)
    (omega arith, (omega arith, (omega arith, (omega arith, tt))))

pub plain-id : (id : ℕ) → NeedsNoEscape (id_text id)
plain-id id = plain_bytes (to_be_bytes w32 id) (id_bytes id)

pub plain-eep : (eep : Eep) → NeedsNoEscape (eep_text eep)
unfolding escape_byte
plain-eep eep = on_eep NeedsNoEscape plain-append refl (λ byte. plain_bytes (to_be_bytes w8 byte) (byte_bytes byte)) eep

pub plain-learn_as_text : (eep : Eep) → NeedsNoEscape (learn_as_text eep)
unfolding escape_byte
plain-learn_as_text eep = plain-append (codes "as ") (eep_text eep) refl (plain-eep eep)

pub ascii-byte : (byte : ℕ) → IsAscii (byte_text byte)
ascii-byte byte = ascii-encode_upper _

pub ascii-eep : (eep : Eep) → IsAscii (eep_text eep)
ascii-eep eep =
    on_eep IsAscii IsAscii-append (all_below 128 (codes "-") (omega arith) (omega arith, tt)) ascii-byte eep

pub ascii-learn_as_text : (eep : Eep) → IsAscii (learn_as_text eep)
ascii-learn_as_text eep =
    let word = all_below 128 (codes "as ") (omega arith) (omega arith, (omega arith, (omega arith, tt))) in
    IsAscii-append (codes "as ") (eep_text eep) word (ascii-eep eep)

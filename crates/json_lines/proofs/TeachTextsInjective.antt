-- Teach lines with the same text are equal.
use Rattle.std.proofs.Common.{◌≡◌, ◌≢◌, ℕ, ◌<◌, ◌^◌, ◌%◌, List, [], ◌∷◌, ◌++◌, take, drop, codes, decimal, Option, Some}
use Rattle.std.proofs.Common.{None, refl, sym, ap, arith}
use Rattle.std.specs.Prelude.{IfSome, slice_index}
use Rattle.std.specs.Int.{w32, to_be_bytes}
use Rattle.std.proofs.lemmas.Fmt.{decimal_injective}
use Rattle.std.proofs.lemmas.Nat.{from_be_bytes-to_be_bytes_4}
use Rattle.hex.specs.Hex.{IsBytes, encode_upper, encode_with}
use Rattle.hex.proofs.HexLemmas.{decode_of-encode_upper}
use Rattle.erp1_telegrams.specs.declared.eep.Eep.{Eep}
use Rattle.json_lines.specs.Lines.{HasNumbersInRange, Teach, TeachLine, byte_text, eep_string, eep_text, in_quotes}
use Rattle.json_lines.specs.Lines.{text, text_or_null}
use Rattle.json_lines.specs.PacketLines.{id_string}
use Rattle.json_lines.proofs.CommaTexts.{all-decimal}
use Rattle.json_lines.proofs.HexTexts.{byte_bytes, id_bytes}
use Rattle.json_lines.proofs.TeachTextOutcome.{same-outcome, same-quoted, teach-same}

-- bytes with the same digits
same-digits : (a b : List ℕ) → IsBytes a → IsBytes b → encode_upper a ≡ encode_upper b → a ≡ b
same-digits a b bytes_a bytes_b same = cc (decode_of-encode_upper a bytes_a, decode_of-encode_upper b bytes_b)

pub same-bytes : (a b : List ℕ) → IsBytes a → IsBytes b
    → in_quotes (encode_upper a) ≡ in_quotes (encode_upper b) → a ≡ b
same-bytes a b bytes_a bytes_b same = same-digits a b bytes_a bytes_b (same-quoted _ _ same)

pub same-id : (a b : ℕ) → a < 2 ^ 32 → b < 2 ^ 32 → id_string a ≡ id_string b → a ≡ b
same-id a b in_a in_b same =
    cc (
      from_be_bytes-to_be_bytes_4 a in_a,
      from_be_bytes-to_be_bytes_4 b in_b,
      same-bytes (to_be_bytes w32 a) (to_be_bytes w32 b) (id_bytes a) (id_bytes b) same,
    )

pub same-byte : (a b : ℕ) → a < 256 → b < 256 → byte_text a ≡ byte_text b → a ≡ b
same-byte a b in_a in_b same =
    omega (
      arith,
      ap (λ (t : List ℕ). slice_index t 0)
          (same-digits (a % 256 ∷ []) (b % 256 ∷ []) (byte_bytes a) (byte_bytes b) same),
    )

abbrev pub IsInRange : Eep → Type 0
IsInRange eep = (eep.rorg < 256) × (eep.func < 256) × (eep.typ < 256)

same-eep : (a b : Eep) → IsInRange a → IsInRange b → eep_text a ≡ eep_text b → a ≡ b
unfolding encode_with
same-eep a b in_a in_b same =
    let rorg = same-byte a.rorg b.rorg in_a.0 in_b.0 (ap (take 2) same) in
    let func = same-byte a.func b.func in_a.1 in_b.1 (ap (λ (t : List ℕ). take 2 (drop 3 t)) same) in
    let typ = same-byte a.typ b.typ in_a.2 in_b.2 (ap (λ (t : List ℕ). drop 6 t) same) in
    λ i. record { rorg = rorg i; func = func i; typ = typ i }

-- optional values with the same text
pub same-known : {A : Type 0} (text_of : A → List ℕ) (InRange : A → Type 0) (a b : Option A)
    → IfSome a InRange → IfSome b InRange
    → ((one : A) → InRange one → text_of one ≢ codes "null")
    → ((one other : A) → InRange one → InRange other → text_of one ≡ text_of other → one ≡ other)
    → text_or_null text_of a ≡ text_or_null text_of b → a ≡ b
same-known text_of InRange None None in_a in_b differs injective same = refl
same-known text_of InRange (Some a) (Some b) in_a in_b differs injective same = ap Some (injective a b in_a in_b same)
same-known text_of InRange (Some a) None in_a in_b differs injective same = absurd (differs a in_a same)
same-known text_of InRange None (Some b) in_a in_b differs injective same = absurd (differs b in_b (sym same))

pub same-profile : (a b : Option Eep) → IfSome a IsInRange → IfSome b IsInRange
    → text_or_null eep_string a ≡ text_or_null eep_string b → a ≡ b
same-profile a b in_a in_b = same-known eep_string IsInRange a b in_a in_b (λ eep range same. absurd cc)
    (λ a b in_a in_b same. same-eep a b in_a in_b (same-quoted _ _ same))

-- a number is not null: none of its digits is an n
pub not-null : (n : ℕ) → decimal n ≢ codes "null"
not-null n same = (rw same at (all-decimal (λ c. c ≢ 110) (omega arith) n)).0 refl

pub same-maker : (a b : Option ℕ) → IfSome a (λ maker. maker < 2 ^ 16) → IfSome b (λ maker. maker < 2 ^ 16)
    → text_or_null decimal a ≡ text_or_null decimal b → a ≡ b
same-maker a b in_a in_b = same-known decimal (λ maker. maker < 2 ^ 16) a b in_a in_b (λ maker range. not-null maker)
    (λ a b in_a in_b. decimal_injective a b (omega (arith, in_a)) (omega (arith, in_b)))

pub one_teach_line : (line reported : TeachLine) → HasNumbersInRange line → HasNumbersInRange reported
    → text (Teach line) ≡ text (Teach reported) → line ≡ reported
one_teach_line line reported in_line in_reported same =
    let ((eep_is, (id_is, (maker_is, (outcome_is, end)))), rest) =
    teach-same line reported [] (ap (λ t. t ++ []) same) in
    let eep = same-profile line.eep reported.eep in_line.0 in_reported.0 eep_is in
    let id = same-id line.id reported.id in_line.1 in_reported.1 id_is in
    let maker = same-maker line.maker reported.maker in_line.2 in_reported.2 maker_is in
    let outcome = same-outcome line.outcome reported.outcome outcome_is in
    λ i. record { eep = eep i; id = id i; maker = maker i; outcome = outcome i }

-- The text of a teach line is the text of only one teach line, with that line's outcome.
use Rattle.std.proofs.Common.{◌≡◌, ◌≢◌, ℕ, List, [], ◌∷◌, ◌++◌, drop, take, codes, sym, ap, ◌∙◌, append-nil, refl}
use Rattle.std.proofs.Common.{arith}
use Rattle.std.specs.Prelude.{slice_index_or}
use Rattle.std.specs.List.{AllByRecursion, AllZip}
use Rattle.std.proofs.lemmas.Bool.{eqb-false}
use Rattle.std.proofs.lemmas.List.{append_cancel_right}
use Rattle.learned_devices.specs.declared.Device.{Device}
use Rattle.teach_in.specs.declared.outcome.Outcome.{Outcome}
use Rattle.teach_in.specs.declared.outcome.Outcome.TheVariants.{Accepted}
use Rattle.gateway_state.specs.declared.handling_reason.HandlingReason.TheVariants.{TeachIn}
use Rattle.json_lines.specs.Lines.{DeskLine, Teach, DeviceLine, TeachLine, in_quotes, members_of, outcome_word, text}
use Rattle.json_lines.specs.Lines.{texts}
use Rattle.json_lines.proofs.CommaTexts.{NoComma, no-id, no-known_profile, no-maker, no-profile, no-quotes, values-same}
use Rattle.json_lines.proofs.ReasonWords.{one_why}

no-outcome : (outcome : Outcome) → NoComma (outcome_word outcome)
no-outcome Accepted = omega arith
no-outcome outcome = omega arith

-- the members of a teach line before its type
abbrev pub teach_values : TeachLine → List (List ℕ × List ℕ)
teach_values line = take 4 (members_of (Teach line))

no-teach : (line : TeachLine) → AllByRecursion (λ m. NoComma m.1) (teach_values line)
no-teach line = (
  no-known_profile line.eep,
  (no-id line.id, (no-maker line.maker, (no-quotes (outcome_word line.outcome) (no-outcome line.outcome), tt))),
)

-- a teach line, and what follows it
pub teach-same : (line reported : TeachLine) (more : List ℕ) → text (Teach line) ++ more ≡ text (Teach reported) ++ []
    → AllZip (λ m n. m.1 ≡ n.1) (teach_values line) (teach_values reported) × (more ≡ [])
teach-same line reported more same =
    let (values, rest) = values-same 4 (members_of (Teach line)) (members_of (Teach reported)) more [] (omega arith)
    (omega arith) refl (no-teach line) (no-teach reported) (ap (drop 1) same) in
    (values, ap (drop 16) rest)

pub same-quoted : (a b : List ℕ) → in_quotes a ≡ in_quotes b → a ≡ b
same-quoted a b same = append_cancel_right a b (codes "\"") (cc)

pub same-outcome : (a b : Outcome) → in_quotes (outcome_word a) ≡ in_quotes (outcome_word b) → a ≡ b
same-outcome a b same = let words = one_why (TeachIn a) (TeachIn b) (same-quoted _ _ same) in cc

-- after the ID a device's line continues with its label, and a teach line with its maker
device-differs : (known : Device) (reported : TeachLine) (more : List ℕ)
    → text (DeviceLine known) ++ more ≢ text (Teach reported) ++ []
device-differs known reported more same =
    let (values, rest) = values-same 2 (members_of (DeviceLine known)) (members_of (Teach reported)) more []
    (omega arith) (omega arith) refl (no-profile known.eep, (no-id known.id, tt))
    (no-known_profile reported.eep, (no-id reported.id, tt)) (ap (drop 1) same) in
    eqb-false 108 109 refl (ap (λ (t : List ℕ). slice_index_or t 1 0) rest)

-- no lines have the empty text
no_lines : (lines : List DeskLine) → texts lines ≡ [] → lines ≡ []
no_lines [] same = refl
no_lines (line ∷ lines) same = absurd cc

-- the lines are one teach line, with this outcome
abbrev pub IsTeachLine : List DeskLine → TeachLine → Type 0
IsTeachLine lines reported = (line : TeachLine) × (lines ≡ Teach line ∷ []) × (line.outcome ≡ reported.outcome)

-- the first line is a teach line: the fourth byte of any other except a device's differs
of_first : (first : DeskLine) (rest : List DeskLine) (reported : TeachLine)
    → text first ++ texts rest ≡ text (Teach reported) ++ [] → IsTeachLine (first ∷ rest) reported
of_first (Teach line) rest reported same =
    let ((eep, (id, (maker, (outcome, end)))), none) = teach-same line reported (texts rest) same in
    (line, ap (λ lines. Teach line ∷ lines) (no_lines rest none), same-outcome line.outcome reported.outcome outcome)
of_first (DeviceLine known) rest reported same = absurd (device-differs known reported (texts rest) same)
of_first first rest reported same = absurd (eqb-false _ 101 refl (ap (λ (t : List ℕ). slice_index_or t 3 0) same))

pub of_teach_lines : (lines : List DeskLine) (reported : TeachLine) → texts lines ≡ text (Teach reported)
    → IsTeachLine lines reported
of_teach_lines [] reported same = absurd cc
of_teach_lines (first ∷ rest) reported same =
    of_first first rest reported (same ∙ sym (append-nil (text (Teach reported))))

use Rattle.std.proofs.Common.{arith, IsUtf8, MatchResult}
use Rattle.std.proofs.lemmas.Grind.{common_steps}
use Rattle.keyed_table.proofs.Common.{rules, ◌≡◌, ◌∙◌, sym, false, List, ℕ, None, Result, Ok, Err, and_parts}
use Rattle.device_registry.proofs.Common.{is_label}
use Rattle.std.specs.Result.{result_ok}
use Rattle.learned_devices.proofs.LabelLemmas.{name-utf8}
use Rattle.device_registry.proofs.table.row_codec.read_label.Goals as goal

-- a text that is not UTF-8 is no label
unread : {A E : Type 0} (P : A → Type 0) (Bad : E → Type 0) (text : List ℕ) (r : Result A E)
    → MatchResult r P Bad → ((e : E) → Bad e → ¬ (IsUtf8 text)) → result_ok r ≡ None → is_label text ≡ false
unread P Bad text (Ok s) cases bad none = absurd (let e = none in cc)
unread P Bad text (Err e) cases bad none = grind (arith, common_steps, bad e cases, name-utf8, and_parts)

pub returns-in_err-ok-in-Ok-Text : goal.returns-in_err-ok-in-Ok-Text
returns-in_err-ok-in-Ok-Text c =
    let none = unread _ _ c.in-Ok-Text.found.now c.from_utf8.result c.from_utf8.ensures.cases (λ e h. h.0)
    (sym c.ok.ensures.value ∙ c.in_err-ok-in-Ok-Text.was) in
    search (rules, none)

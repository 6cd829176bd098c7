-- What `clap` found on a command line that it accepts.
use Rattle.std.proofs.Common.{rules}
use Rattle.std.proofs.lemmas.Grind.{common_steps}
use Rattle.std.proofs.Common.{◌≡◌, ◌⊎◌, ◌∙◌, ◌||◌, ◌&&◌, ◌<◌, ℕ, Bool, cond, true, false, not, refl, sym, ap, ap₂}
use Rattle.std.proofs.Common.{subst, arith, inl, inr, List, [], ◌∷◌, Option, Some, None, Result, is_some}
use Rattle.std.proofs.Common.{codes, slice_index_or}
use Rattle.std.specs.Prelude.{find, option_and_then, option_map, unwrap_or}
use Rattle.std.specs.List.{All}
use Rattle.std.specs.Option.{option_map_or}
use Rattle.std.specs.Str.{bytes_eq}
use Rattle.std.specs.Str.Parse.{ParsesUnsigned, digits_value, without_leading_plus}
use Rattle.std.proofs.lemmas.List.Elements.{All-from_recursion}
use Rattle.std.proofs.lemmas.Slice.Eq.{bytes_eq-Decides}
use Rattle.clap.specs.Built.{AddsArg, AddsSubcommand}
use Rattle.clap.specs.Faults.{entered_fault, fault_of, is_simple_and_free, level_fault, walk_fault}
use Rattle.clap.specs.Kinds.{HasKind}
use Rattle.clap.specs.Matches.{ReadsOne}
use Rattle.clap.specs.Simple.{App, HasMatchesOf, Shape, app_of, argument_words, built, entered, filled, label_of}
use Rattle.clap.specs.Simple.{names_of, rows_at, subcommand_of, subcommand_rows_of, with_rule, with_subcommand}
use Rattle.clap.specs.Takes.{is_given}
use Rattle.clap.specs.Values.{IsUnsignedIn}
use Rattle.clap.specs.Walk.{Row, Rule, Text, answers_to, arg_by_id, first_of, nothing_held, one_of}
use Rattle.clap.specs.Walk.{rows_after, rule_of, walk, walk_from}
use Rattle.clap.specs.declared.builder.Arg.{Arg}
use Rattle.clap.specs.declared.builder.Command.{Command}
use Rattle.clap.specs.declared.builder.value_parser.Reading.TheVariants.{AsWritten}
use Rattle.clap.specs.declared.builder.value_parser.ValueParser.TheVariants.{Unsigned}
use Rattle.clap.specs.declared.error.Error.{Error}
use Rattle.clap.specs.declared.parser.matches.ArgMatches.{ArgMatches}
use Rattle.clap.proofs.ValueTestLemmas.{accepts-Accepts}
use Rattle.gateway_cli.specs.CommandLine.{HasExplain, HasRequiredOptions, IsAcceptedByClap, HasLiveOptions, base_rule}
use Rattle.gateway_cli.specs.CommandLine.{enogate_app, explain_rule, rows_if_replay_or_live}
use Rattle.gateway_cli.proofs.RequiredLemmas.{DefaultFits, HasOne, RowFits, RuleFits, default-found, found-passes}
use Rattle.gateway_cli.proofs.RequiredLemmas.{given-found}
use Rattle.gateway_cli.proofs.RequiredLemmas.{level-fits, none_missing-if_no_fault, or_else-none}

-- ---- building the commands

pub app_of-added_arg : (old new : Command) (arg : Arg) (app : App) (rule : Rule) → AddsArg old arg new
    → arg.global ≡ false
    → app_of old ≡ app → rule_of arg ≡ rule → app_of new ≡ with_rule app rule
app_of-added_arg old new arg app rule added local above is = added.shape local ∙ ap₂ with_rule above is

pub app_of-added_subcommand : (old sub new : Command) (app below : App) → AddsSubcommand old sub new → app_of old ≡ app
    → app_of sub ≡ below → below.top.is_plain ≡ true → app_of new ≡ with_subcommand app below.top
app_of-added_subcommand old sub new app below added above is plain = grind (arith, common_steps)

-- ---- what was accepted-if_no_fault

-- the parse of the command `enogate` accepts the words
pub clap-accepts : (words : List Text) (command : Command) → app_of command ≡ enogate_app
    → (is_simple_and_free (app_of command) ≡ true → fault_of (app_of command) words ≡ []) → IsAcceptedByClap words
clap-accepts words command is none =
    let P : App → Type 0 = λ app. is_simple_and_free app ≡ true → fault_of app words ≡ [] in subst P is none refl

-- or it rejects them for a cause that they have
pub clap-rejects : (words : List Text) (command : Command) (error : Error) → app_of command ≡ enogate_app
    → (is_simple_and_free (app_of command) ≡ true → HasKind (fault_of (app_of command) words) error)
    → HasKind (fault_of enogate_app words) error
clap-rejects words command error is has =
    let P : App → Type 0 = λ app. is_simple_and_free app ≡ true → HasKind (fault_of app words) error in
    subst P is has refl

-- and it found what `enogate_app` says
pub subcommand_rows-given : (words : List Text) (command : Command) (m : ArgMatches) → app_of command ≡ enogate_app
    → HasMatchesOf (app_of command) words m → subcommand_rows_of m ≡ subcommand_of enogate_app words
subcommand_rows-given words command m is found =
    let P : App → Type 0 = λ app. HasMatchesOf app words m in (subst P is found refl).1

-- ---- the subcommands `replay` and `live`, as building leaves them

abbrev replay_shape : Shape
replay_shape = slice_index_or (built enogate_app).subs 0 enogate_app.top

abbrev live_shape : Shape
live_shape = slice_index_or (built enogate_app).subs 1 enogate_app.top

replay_rules_fit : All (RuleFits replay_shape.rules) replay_shape.rules
replay_rules_fit = All-from_recursion (RuleFits replay_shape.rules) replay_shape.rules (
  (refl, inl (refl, refl, refl)),
  (
    (refl, inl (refl, refl, refl)),
    ((refl, inr (inl (refl, refl, refl, codes "true", refl))), ((refl, inr (inr refl)), tt)),
  ),
)

replay_defaults_fit : All DefaultFits replay_shape.rules
replay_defaults_fit = grind (arith, common_steps)

live_rules_fit : All (RuleFits live_shape.rules) live_shape.rules
live_rules_fit = All-from_recursion (RuleFits live_shape.rules) live_shape.rules (
  (refl, inl (refl, refl, refl)),
  (
    (refl, inl (refl, refl, refl)),
    (
      (refl, inl (refl, refl, refl)),
      (
        (refl, inl (refl, refl, refl)),
        (
          (refl, inl (refl, refl, refl)),
          (
            (refl, inl (refl, refl, refl)),
            ((refl, inr (inl (refl, refl, refl, codes "true", refl))), ((refl, inr (inr refl)), tt)),
          ),
        ),
      ),
    ),
  ),
)

live_defaults_fit : All DefaultFits live_shape.rules
live_defaults_fit = grind (arith, common_steps)

true_if_not_false : (b : Bool) → not b ≡ false → b ≡ true
true_if_not_false b e = grind (arith, common_steps)

first_of-found : (id : Text) (rows : List Row) (r : Row) (text : Text) → find (λ x. bytes_eq x.id id) rows ≡ Some r
    → r.values ≡ text ∷ [] → first_of id rows ≡ Some text
first_of-found id rows r text found values = grind (arith, common_steps)

one_of-found : (id : Text) (rows : List Row) (r : Row) (text : Text) → find (λ x. bytes_eq x.id id) rows ≡ Some r
    → r.values ≡ text ∷ [] → r.reading ≡ AsWritten → one_of id rows ≡ Some text
one_of-found id rows r text found values reading = grind (arith, common_steps)

-- the flag `--explain`, as building leaves it
abbrev built_explain : Rule
built_explain = filled explain_rule

-- its text is there, given or not
explain-has_default : (s : Shape) (words : List Text) → All (RowFits s.rules) (rows_after s.rules [] words)
    → arg_by_id s.rules (codes "explain") ≡ Some built_explain → HasExplain (rows_after s.rules [] words)
explain-has_default s words fits own =
    let rows = rows_after s.rules [] words in
    let got = default-found s words built_explain (codes "false") fits own refl in
    let text = got.2.0 in
    let is : (bytes_eq text (codes "true") || bytes_eq text (codes "false")) ≡ true = got.2.2 in
    record {
      text = text;
      found = first_of-found (codes "explain") rows got.0 text got.1 got.2.1;
      read = one_of-found (codes "explain") rows got.0 text got.1 got.2.1 got.2.3;
      is = go text (bytes_eq text (codes "true")) refl is;
    }
  where
    go : (text : Text) (b : Bool) → bytes_eq text (codes "true") ≡ b → (b || bytes_eq text (codes "false")) ≡ true
        → (text ≡ codes "true") ⊎ (text ≡ codes "false")
    go text true is either = inl ((bytes_eq-Decides text (codes "true")).0 is)
    go text false is either = inr ((bytes_eq-Decides text (codes "false")).0 either)

replay-has_explain : (words : List Text) → level_fault replay_shape [] nothing_held words false [] ≡ []
    → HasExplain (rows_after replay_shape.rules [] words)
replay-has_explain words e =
    let level = level-fits replay_shape refl replay_rules_fit (λ n. refl) replay_defaults_fit words e in
    explain-has_default replay_shape words level.0 refl

-- everything that `live` requires is there, if its words pass
live-has_required : (words : List Text) → level_fault live_shape [] nothing_held words false [] ≡ []
    → HasExplain (rows_after live_shape.rules [] words) × HasLiveOptions (rows_after live_shape.rules [] words)
live-has_required words e =
    let rows = rows_after live_shape.rules [] words in
    let level = level-fits live_shape refl live_rules_fit (λ n. refl) live_defaults_fit words e in
    let each = none_missing-if_no_fault live_shape rows level.1 in
    let rule : ℕ → Rule = λ k. slice_index_or live_shape.rules k base_rule in
    let one : (k : ℕ) → k < 8 → (rule k).required ≡ true → arg_by_id live_shape.rules (rule k).id ≡ Some (rule k)
    → (r : Row) × (find (λ x. bytes_eq x.id (rule k).id) rows ≡ Some r) × HasOne (rule k) r =
    λ k low required own. given-found live_shape.rules rows (rule k) level.0 own
    (true_if_not_false _ (ap (λ b. b && not (is_given (rule k).id rows)) (sym required) ∙ each k base_rule low)) in
    let text : (k : ℕ) → k < 8 → (rule k).required ≡ true → arg_by_id live_shape.rules (rule k).id ≡ Some (rule k)
    → is_some (first_of (rule k).id rows) ≡ true =
    λ k low required own. let got = one k low required own in
    ap (λ o. is_some o) (first_of-found (rule k).id rows got.0 got.2.0 got.1 got.2.1) in
    let turns = one 4 (omega arith) refl refl in
    let whole : HasLiveOptions rows = record {
      serial = text 1 (omega arith) refl refl;
      desk = text 2 (omega arith) refl refl;
      out = text 3 (omega arith) refl refl;
      turns = record {
        text = turns.2.0;
        given = first_of-found (codes "turns") rows turns.0 turns.2.0 turns.1 turns.2.1;
        read = one_of-found (codes "turns") rows turns.0 turns.2.0 turns.1 turns.2.1 turns.2.3;
        passes = accepts-Accepts false (Unsigned 1 4294967295) turns.2.0 turns.2.2;
      };
    } in
    (explain-has_default live_shape words level.0 refl, whole)

-- the name of a subcommand that serves
abbrev Serves : Text → Type 0
Serves name = (name ≡ codes "replay") ⊎ (name ≡ codes "live")

abbrev CompleteIfServing : Shape → Type 0
CompleteIfServing s = Serves s.name → (words : List Text) → level_fault s [] nothing_held words false [] ≡ []
    → HasRequiredOptions (Some (rows_at s words))

served_subcommands-have_required : All CompleteIfServing (built enogate_app).subs
served_subcommands-have_required =
    let first : Text → ℕ = λ t. slice_index_or t 0 0 in
    All-from_recursion CompleteIfServing (built enogate_app).subs (
      λ named words e. (replay-has_explain words e, inl refl),
      (
        λ named words e. let passes = live-has_required words e in (passes.0, inr (refl, passes.1)),
        (
          λ named words e. elim named [
            | inl replay ↦ let bad : 104 ≡ 114 = ap first replay in absurd (omega arith)
            | inr live ↦ let bad : 104 ≡ 108 = ap first live in absurd (omega arith)
          ],
          tt,
        ),
      ),
    )

entered-has_required : (stop : Option (Text × List Text)) (found : Text × List Row)
    → entered_fault (built enogate_app) stop ≡ [] → entered (built enogate_app) stop ≡ Some found → Serves found.0
    → HasRequiredOptions (Some found)
entered-has_required None found e is named = cc
entered-has_required (Some p) found e is named =
    go (find (λ s. answers_to p.0 (label_of s)) (built enogate_app).subs) refl e is
  where
    go : (o : Option Shape) → find (λ s. answers_to p.0 (label_of s)) (built enogate_app).subs ≡ o
        → option_map_or (λ s. level_fault s [] nothing_held p.1 false []) o [] ≡ []
        → option_map (λ s. rows_at s p.1) o ≡ Some found → HasRequiredOptions (Some found)
    go None at e is = cc
    go (Some s) at e is =
        let same : rows_at s p.1 ≡ found = ap (λ (o : Option (Text × List Row)). unwrap_or o found) is in
        let accepted-has_required = (found-passes CompleteIfServing (λ x. answers_to p.0 (label_of x))
        (built enogate_app).subs s
        served_subcommands-have_required at).0 in
        subst (λ (x : Text × List Row). HasRequiredOptions (Some x)) same
        (accepted-has_required (subst (λ (x : Text × List Row). Serves x.0) (sym same) named) p.1 e)

-- if the subcommand is one that serves, it has everything that it requires
accepted-has_required : (words : List Text) (found : Option (Text × List Row)) (rows : List Row)
    → IsAcceptedByClap words
    → found ≡ subcommand_of enogate_app words → option_and_then rows_if_replay_or_live found ≡ Some rows
    → HasRequiredOptions found
accepted-has_required words None rows taken is read = cc
accepted-has_required words (Some found) rows taken is read =
    go (bytes_eq found.0 (codes "replay")) (bytes_eq found.0 (codes "live")) refl refl read
  where
    serves : Serves found.0 → HasRequiredOptions (Some found)
    serves named =
        let app = built enogate_app in
        let rest = argument_words enogate_app words in
        let stop = (walk app.top.rules (names_of app) nothing_held rest).stopped in
        let parts = or_else-none (walk_fault app.top (names_of app) (walk_from nothing_held) rest) _ taken in
        let below = (or_else-none (entered_fault app stop) _ parts.1).0 in
        entered-has_required stop found below (sym is) named

    go : (r l : Bool) → bytes_eq found.0 (codes "replay") ≡ r → bytes_eq found.0 (codes "live") ≡ l
        → cond (r || l) (Some found.1) None ≡ Some rows → HasRequiredOptions (Some found)
    go true l replay live read = serves (inl ((bytes_eq-Decides found.0 (codes "replay")).0 replay))
    go false true replay live read = serves (inr ((bytes_eq-Decides found.0 (codes "live")).0 live))
    go false false replay live read = cc

-- and the same for the parse of the command `enogate`
pub subcommand-has_required : (words : List Text) (command : Command) (m : ArgMatches) → app_of command ≡ enogate_app
    → (is_simple_and_free (app_of command) ≡ true → fault_of (app_of command) words ≡ [])
    → HasMatchesOf (app_of command) words m → (rows : List Row)
    → option_and_then rows_if_replay_or_live (subcommand_rows_of m) ≡ Some rows
    → HasRequiredOptions (subcommand_rows_of m)
subcommand-has_required words command m is none found rows served = search
    (rules, accepted-has_required, subcommand_rows-given, clap-accepts)

-- ---- the flag

-- what was given to a accepted-has_required subcommand has the text of `--explain`
pub explain-of_rows : (found : Option (Text × List Row)) (rows : List Row) → HasRequiredOptions found
    → Some rows ≡ option_and_then rows_if_replay_or_live found → HasExplain rows
explain-of_rows found rows accepted-has_required is = grind (arith, common_steps)

-- what `get_flag` reads from it
pub flag-read : (rows : List Row) (b : Bool) → HasExplain rows
    → (one_of (codes "explain") rows ≡ Some (codes "true") → b ≡ true)
    → (one_of (codes "explain") rows ≡ Some (codes "false") → b ≡ false)
    → b ≡ option_map_or (λ text. bytes_eq text (codes "true")) (first_of (codes "explain") rows) false
flag-read rows b has if_true if_false = grind (arith, common_steps)

-- ---- the number of turns

-- the number that `get_one` reads from a text that passed
pub turns-read : (E : Type 0) (G : List ℕ → Result ℕ E → Type 0) (text : Text) (r : Option ℕ) → ReadsOne G text r
    → ((u : List ℕ) (x : Result ℕ E) → G u x → ParsesUnsigned 32 10 u x) → IsUnsignedIn 1 4294967295 text
    → r ≡ Some (digits_value 10 (without_leading_plus text))
turns-read E G text r read only passes = grind (arith, common_steps)

-- If `clap` accepts the words of a command whose options have one value each, or are flags, then each option that was
-- found has one value that its parser accepts, and each option that is required, or has a default, is found.
use Rattle.std.proofs.Common.{rules}
use Rattle.std.proofs.lemmas.Grind.{common_steps}
use Rattle.std.proofs.Common.{◌≡◌, ◌∙◌, ◌⊎◌, ◌++◌, ◌&&◌, ◌||◌, ℕ, Bool, cond, true, false, not, zero, suc, refl}
use Rattle.std.proofs.Common.{sym, ap, subst, arith, List, [], ◌∷◌, length, drop, Option, Some, None, is_some}
use Rattle.std.specs.Prelude.{encode_utf8, find, fold, unwrap_or}
use Rattle.std.specs.List.{All, list_any}
use Rattle.std.specs.Option.{option_map_or}
use Rattle.std.specs.Str.{bytes_eq}
use Rattle.std.proofs.lemmas.List.{append-nil}
use Rattle.std.proofs.lemmas.List.Folds.{list_any-append}
use Rattle.std.proofs.lemmas.List.Elements.{All-drop, All-get_or, All-nil, All-push}
use Rattle.std.proofs.lemmas.Slice.Eq.{bytes_eq-Decides}
use Rattle.clap.specs.Facts.{explicit_source, parser_of_value, unwrap_or_range}
use Rattle.clap.specs.Faults.{action_fault, bundle_fault, bundle_step_fault, check_fault, default_fault, defaults_fault}
use Rattle.clap.specs.Faults.{flag_word_fault, flags_fault, level_fault, long_fault, option_fault}
use Rattle.clap.specs.Faults.{other_fault, react_fault, set_fault, settle_fault, short_fault}
use Rattle.clap.specs.Faults.{turn_fault, use_fault, values_fault, walk_fault, word_fault}
use Rattle.clap.specs.Kinds.{Kinds, check_kinds, or_else, range_kinds}
use Rattle.clap.specs.Simple.{Shape}
use Rattle.clap.specs.Takes.{is_given}
use Rattle.clap.specs.ValueTests.{accepts}
use Rattle.clap.specs.Walk.{Held, Outcome, Row, Rule, Step, Text, Waiting, Walk, action_of, after_flag, after_step}
use Rattle.clap.specs.Walk.{arg_by_id, arg_by_index, arg_by_long, arg_by_short, at_row, bundle_met, bundle_step}
use Rattle.clap.specs.Walk.{attached_value, done, flag_met, has_row, long_met}
use Rattle.clap.specs.Walk.{long_or_other, most_values, nothing_held, option_met}
use Rattle.clap.specs.Walk.{plain_word, reacted, reading_by, rows_after}
use Rattle.clap.specs.Walk.{settled, short_met, short_or_plain, subcommand_met}
use Rattle.clap.specs.Walk.{subcommand_or_other, takes_values, trailing, used, used_as, used_by_id}
use Rattle.clap.specs.Walk.{values_or_missing, walk, walk_from, walked, with_default}
use Rattle.clap.specs.Walk.{with_values, word_met}
use Rattle.clap.specs.Lexer.{long_of, short_of}
use Rattle.clap.specs.declared.builder.action.ArgAction.TheVariants.{Help, Set, SetTrue}
use Rattle.clap.specs.declared.error.kind.ErrorKind.{ErrorKind}
use Rattle.clap.specs.declared.error.kind.ErrorKind.TheVariants as kind
use Rattle.clap.specs.declared.parser.matches.ValueSource.{ValueSource}

-- ---- lists and tests

pub or_else-none : (a b : Kinds) → or_else a b ≡ [] → (a ≡ []) × (b ≡ [])
or_else-none a b e = grind (arith, common_steps)

-- what a search finds is an element, and passes
pub found-passes : {X : Type 0} (P : X → Type 0) (p : X → Bool) (xs : List X) (x : X) → All P xs → find p xs ≡ Some x
    → P x × (p x ≡ true)
found-passes P p [] x all e = cc
found-passes {X} P p (y ∷ ys) x all e = go (p y) refl e (λ rest. found-passes P p ys x (All-drop P 1 (y ∷ ys) all) rest)
  where
    go : (b : Bool) → p y ≡ b → cond b (Some y) (find p ys) ≡ Some x → (find p ys ≡ Some x → P x × (p x ≡ true))
        → P x × (p x ≡ true)
    go true is e rest =
        let same : y ≡ x = ap (λ (o : Option X). unwrap_or o x) e in
        subst (λ z. P z × (p z ≡ true)) same (All-get_or P (y ∷ ys) 0 y (omega arith) all, is)
    go false is e rest = rest e

none-passes : {X : Type 0} (p : X → Bool) (xs : List X) → list_any p xs ≡ false → All (λ x. p x ≡ false) xs
none-passes p xs e = grind (arith, common_steps)

at_row-absent : (id : Text) (change : Row → List Row) (missing rows : List Row) → has_row id rows ≡ false
    → at_row id change missing rows ≡ rows ++ missing
at_row-absent id change missing [] e = refl
at_row-absent id change missing (r ∷ rs) e = grind (arith, common_steps, (at_row-absent id change missing rs))

-- what is found by its id has a row, and what has a row is found by its id
row-found : (id : Text) (rows : List Row) → has_row id rows ≡ true
    → (r : Row) × (find (λ x. bytes_eq x.id id) rows ≡ Some r)
row-found id [] e = cc
row-found id (r ∷ rs) e = go (bytes_eq r.id id) e (row-found id rs)
  where
    go : (b : Bool) → (b || has_row id rs) ≡ true
        → (has_row id rs ≡ true → (x : Row) × (find (λ y. bytes_eq y.id id) rs ≡ Some x))
        → (x : Row) × (cond b (Some r) (find (λ y. bytes_eq y.id id) rs) ≡ Some x)
    go true e rest = (r, refl)
    go false e rest = rest e

row_absent-unless_repeated : (b again : Bool) → again ≡ false
    → cond (b && not again) (kind.ArgumentConflict ∷ []) [] ≡ [] → b ≡ false
row_absent-unless_repeated b again once e = grind (arith, common_steps)

accepted-if_no_fault : (b : Bool) (k : ErrorKind) → cond b [] (k ∷ []) ≡ [] → b ≡ true
accepted-if_no_fault b k e = grind (arith, common_steps)

length-none : (n : ℕ) → range_kinds 0 0 n ≡ [] → n ≡ 0
length-none n e = grind (arith, common_steps)

length-one : (n : ℕ) → range_kinds 1 1 n ≡ [] → n ≡ 1
length-one n e = grind (arith, common_steps)

-- ---- what is found of one option

-- each use of the option takes one value
abbrev pub TakesOne : Rule → Type 0
TakesOne a = (action_of a ≡ Set) × ((unwrap_or_range a.range).start_inclusive ≡ 1) × (most_values a ≡ 1)

-- a use of the option takes no value, and this one stands for a use
abbrev pub IsFlag : Rule → Type 0
IsFlag a = (action_of a ≡ SetTrue) × ((unwrap_or_range a.range).start_inclusive ≡ 0) × (most_values a ≡ 0)
    × (text : Text) × (a.missing ≡ text ∷ [])

-- the option is the first of its id, and takes one value, is a flag or asks for help
abbrev pub RuleFits : List Rule → Rule → Type 0
RuleFits c a = (arg_by_id c a.id ≡ Some a) × (TakesOne a ⊎ (IsFlag a ⊎ (action_of a ≡ Help)))

-- at most one value stands for the option if it is not given
abbrev pub DefaultFits : Rule → Type 0
DefaultFits a = (a.defaults ≡ []) ⊎ ((text : Text) × (a.defaults ≡ text ∷ []))

-- one value was found, which the option's parser accepts
abbrev pub HasOne : Rule → Row → Type 0
HasOne a r = (text : Text) × (r.values ≡ text ∷ []) × (accepts a.ignore_case (parser_of_value a.parser) text ≡ true)
    × (r.reading ≡ reading_by a)

abbrev pub RowFits : List Rule → Row → Type 0
RowFits c r = (a : Rule) → arg_by_id c r.id ≡ Some a → HasOne a r

-- the row of an option that has none yet
abbrev pub new_row : Rule → ValueSource → List Text → Row
new_row a source values = record {
  id = a.id;
  values = values;
  count = None;
  source = Some source;
  reading = reading_by a;
}

with_values-new : (a : Rule) (source : ValueSource) (values : List Text) (rows : List Row) → has_row a.id rows ≡ false
    → with_values a.id (reading_by a) source values rows ≡ rows ++ new_row a source values ∷ []
with_values-new a source values rows free = grind (arith, common_steps, at_row-absent)

-- a value that passes fits, in the row of an option that had none
with_values-fits : (c : List Rule) (a : Rule) (source : ValueSource) (v : Text) (rows : List Row) → RuleFits c a
    → All (RowFits c) rows → has_row a.id rows ≡ false → values_fault a (v ∷ []) ≡ []
    → All (RowFits c) (with_values a.id (reading_by a) source (v ∷ []) rows)
with_values-fits c a source v rows fits all free e = grind
    (arith, common_steps, All-push, accepted-if_no_fault, with_values-new, or_else-none)

module _ (c : List Rule) (again : Bool) (once : again ≡ false) where
  set-fits : (a : Rule) (v : Text) (rows : List Row) → RuleFits c a → All (RowFits c) rows
      → set_fault again a (v ∷ []) rows ≡ [] → All (RowFits c) (used_as Set a.id (reading_by a) (v ∷ []) rows)
  set-fits a v rows fits all e = grind (
    arith,
    append-nil,
    at_row-absent,
    with_values-fits,
    row_absent-unless_repeated,
    or_else-none,
  )

  value-fits : (a : Rule) (values : List Text) (rows : List Row) → RuleFits c a → action_of a ≡ Set → length values ≡ 1
      → All (RowFits c) rows → action_fault (action_of a) again a (values_or_missing a values) rows ≡ []
      → All (RowFits c) (used a values rows)
  value-fits a [] rows fits set one all e = absurd (omega arith)
  value-fits a (v ∷ []) rows fits set one all e = grind (arith, set-fits, (value-fits a []))
  value-fits a (v ∷ w ∷ more) rows fits set one all e = absurd (omega arith)

  flag-fits : (a : Rule) (values : List Text) (rows : List Row) → RuleFits c a → IsFlag a → length values ≡ 0
      → All (RowFits c) rows → action_fault (action_of a) again a (values_or_missing a values) rows ≡ []
      → All (RowFits c) (used a values rows)
  flag-fits a values rows fits flag none all e = search (rules, set-fits)

  used-fits : (a : Rule) (values : List Text) (rows : List Row) → RuleFits c a → All (RowFits c) rows
      → use_fault again a values rows ≡ [] → All (RowFits c) (used a values rows)
  used-fits a values rows fits all e = grind (arith, flag-fits, length-none, value-fits, length-one, or_else-none)

  -- ---- the walk over the words

  module _ (rules : All (RuleFits c) c) where
    rule_found-fits : (p : Rule → Bool) (a : Rule) → find p c ≡ Some a → RuleFits c a
    rule_found-fits p a found = (found-passes (RuleFits c) p c a rules found).0

    waiting-fits : (p : Text × List Text) (rows : List Row) (found : Option Rule) → arg_by_id c p.0 ≡ found
        → All (RowFits c) rows → option_map_or (λ a. use_fault again a p.1 rows) found [] ≡ []
        → All (RowFits c) (used_by_id found p.1 rows)
    waiting-fits p rows None is all e = all
    waiting-fits p rows (Some a) is all e = used-fits a p.1 rows (rule_found-fits _ a is) all e

    settled-fits : (h : Held) → All (RowFits c) h.rows → settle_fault c again h ≡ []
        → All (RowFits c) (settled c h).rows
    settled-fits h all e = grind (arith, waiting-fits)

    reacted-fits : (a : Rule) (values : List Text) (h : Held) → RuleFits c a → All (RowFits c) h.rows
        → react_fault c again a values h ≡ [] → All (RowFits c) (reacted c a values h).rows
    reacted-fits a values h fits all e = grind (arith, or_else-none, settled-fits, used-fits)

    option_word-fits : (a : Rule) (v : Option Text) (h : Held) → RuleFits c a → All (RowFits c) h.rows
        → option_fault c again a v h ≡ [] → All (RowFits c) (option_met c a v h).0.rows
    option_word-fits a (Some v) h fits all e = reacted-fits a (v ∷ []) h fits all e
    option_word-fits a None h fits all e = settled-fits h all e

    flag_option-fits : (a : Rule) (v : Option Text) (h : Held) → RuleFits c a → All (RowFits c) h.rows
        → cond (is_some v) (kind.TooManyValues ∷ []) (react_fault c again a [] h) ≡ []
        → All (RowFits c) (flag_met c a v h).0.rows
    flag_option-fits a (Some v) h fits all e = cc
    flag_option-fits a None h fits all e = reacted-fits a [] h fits all e

    long_option-fits : (found : Option Rule) (v : Option Text) (h : Held) → ((a : Rule) → found ≡ Some a → RuleFits c a)
        → All (RowFits c) h.rows → long_fault c again found v h ≡ [] → All (RowFits c) (long_met c found v h).0.rows
    long_option-fits None v h fits all e = cc
    long_option-fits (Some a) v h fits all e = go (takes_values a) e
      where
        go : (b : Bool)
            → cond b (option_fault c again a v h)
            (cond (is_some v) (kind.TooManyValues ∷ []) (react_fault c again a [] h)) ≡ []
            → All (RowFits c) (cond b (option_met c a v h) (flag_met c a v h)).0.rows
        go true e = option_word-fits a v h (fits a refl) all e
        go false e = flag_option-fits a v h (fits a refl) all e

    short_option-fits : (found : Option Rule) (rest : Text) (h : Held) (fault : Held → Kinds)
        (more : Held → Held × Outcome)
        → ((a : Rule) → found ≡ Some a → RuleFits c a)
        → ((g : Held) → All (RowFits c) g.rows → fault g ≡ [] → All (RowFits c) (more g).0.rows)
        → All (RowFits c) h.rows → short_fault c again found rest h fault ≡ []
        → All (RowFits c) (short_met c found rest h more).0.rows
    short_option-fits None rest h fault more fits then all e = cc
    short_option-fits (Some a) rest h fault more fits then all e = go (takes_values a) e
      where
        go : (b : Bool)
            → cond b (option_fault c again a (attached_value rest) h)
            (or_else (react_fault c again a [] h) (fault (reacted c a [] h))) ≡ []
            → All (RowFits c) (cond b (option_met c a (attached_value rest) h) (more (reacted c a [] h))).0.rows
        go true e = option_word-fits a (attached_value rest) h (fits a refl) all e
        go false e =
            let parts = or_else-none (react_fault c again a [] h) (fault (reacted c a [] h)) e in
            then (reacted c a [] h) (reacted-fits a [] h (fits a refl) all parts.0) parts.1

    bundle_step-fits : (first : Option ℕ) (flags : Text) (skip : ℕ) (so_far : Outcome) (h : Held)
        (fault : Text → ℕ → Held → Kinds) (more : Text → ℕ → Outcome → Held → Held × Outcome)
        → ((t : Text) (n : ℕ) (o : Outcome) (g : Held) → All (RowFits c) g.rows → fault t n g ≡ []
        → All (RowFits c) (more t n o g).0.rows)
        → All (RowFits c) h.rows → bundle_step_fault c again first flags skip h fault ≡ []
        → All (RowFits c) (bundle_step c first flags skip so_far h more).0.rows
    bundle_step-fits None flags skip so_far h fault more then all e = all
    bundle_step-fits (Some x) flags zero so_far h fault more then all e =
        let rest = drop (length (encode_utf8 x)) flags in
        short_option-fits (arg_by_short c x) rest h (fault rest 0) (more rest 0 done) (rule_found-fits _)
        (then rest 0 done) all e
    bundle_step-fits (Some x) flags (suc skip) so_far h fault more then all e = grind (arith, common_steps)

    bundle-fits : (k : ℕ) (flags : Text) (skip : ℕ) (so_far : Outcome) (h : Held) → All (RowFits c) h.rows
        → flags_fault c again k flags skip h ≡ [] → All (RowFits c) (bundle_met c k flags skip so_far h).0.rows
    unfolding flags_fault bundle_met
    bundle-fits zero flags skip so_far h all e = all
    bundle-fits (suc k) flags skip so_far h all e = grind (arith, common_steps, bundle_step-fits, (bundle-fits k))

    plain_word-keeps_rows : (w : Waiting) (word : Text) (h : Held) → (plain_word c w word h).0.rows ≡ h.rows
    plain_word-keeps_rows w word h = grind (arith, common_steps)

    after_flag-keeps_rows : (w : Waiting) (word : Text) (h : Held) (o : Outcome)
        → (after_flag c w word h o).0.rows ≡ h.rows
    after_flag-keeps_rows w word h o = grind (arith, common_steps)

    short_word-fits : (w : Waiting) (word : Text) (flags : Option Text) (h : Held) → All (RowFits c) h.rows
        → option_map_or (λ f. bundle_fault c again f h) flags [] ≡ []
        → All (RowFits c) (short_or_plain c w word flags h).0.rows
    short_word-fits w word (Some flags) h all e = grind (arith, common_steps, bundle-fits, after_flag-keeps_rows)
    short_word-fits w word None h all e = subst (All (RowFits c)) (sym (plain_word-keeps_rows w word h)) all

    flag_word-fits : (w : Waiting) (word : Text) (long : Option (Text × Option Text)) (h : Held)
        → All (RowFits c) h.rows → flag_word_fault c again long word h ≡ []
        → All (RowFits c) (long_or_other c w word long h).0.rows
    flag_word-fits w word (Some p) h all e =
        subst (All (RowFits c)) (sym (after_flag-keeps_rows w word _ _))
        (long_option-fits (arg_by_long c p.0) p.1 h (rule_found-fits _) all e)
    flag_word-fits w word None h all e = short_word-fits w word (short_of word) h all e

-- ---- one level of a parse

no_subcommand_met : (w : Waiting) (word : Text) → subcommand_met [] w word ≡ None
no_subcommand_met w word = grind (arith, common_steps)

module _ (s : Shape) (once : s.args_override_self ≡ false) (rules : All (RuleFits s.rules) s.rules)
    (options : (n : ℕ) → arg_by_index s.rules n ≡ None) where
  other_word-fits : (met : Option Text) (w : Waiting) (position : ℕ) (word : Text) (h : Held) → met ≡ None
      → All (RowFits s.rules) h.rows → other_fault s met word h ≡ []
      → All (RowFits s.rules) (subcommand_or_other s.rules met w position word h).0.rows
  other_word-fits (Some name) w position word h none all e = cc
  other_word-fits None w position word h none all e = go (bytes_eq word (45 ∷ 45 ∷ [])) e
    where
      go : (b : Bool) → cond b [] (flag_word_fault s.rules s.args_override_self (long_of word) word h) ≡ []
          → All (RowFits s.rules)
          (cond b (h, trailing position) (long_or_other s.rules w word (long_of word) h)).0.rows
      go true e = all
      go false e = flag_word-fits s.rules s.args_override_self once rules w word (long_of word) h all e

  word-fits : (is_trailing : Bool) (w : Waiting) (position : ℕ) (word : Text) (h : Held) → All (RowFits s.rules) h.rows
      → word_fault s [] is_trailing w word h ≡ []
      → All (RowFits s.rules) (word_met s.rules [] is_trailing w position word h).0.rows
  word-fits true w position word h all e = all
  word-fits false w position word h all e = grind (arith, common_steps, no_subcommand_met, other_word-fits)

  after_step-keeps_rows : (word : Text) (w : Walk) (h : Held) (step : Step)
      → (after_step s.rules word w h step).held.rows ≡ h.rows
  after_step-keeps_rows word w h step = grind (arith, common_steps)

  walked-fits : (w : Walk) (word : Text) → All (RowFits s.rules) w.held.rows → turn_fault s [] w word ≡ []
      → All (RowFits s.rules) (walked s.rules [] w word).held.rows
  unfolding walked
  walked-fits w word all e = grind (arith, or_else-none, after_step-keeps_rows, word-fits)

  walk-fits : (words : List Text) (w : Walk) → All (RowFits s.rules) w.held.rows → walk_fault s [] w words ≡ []
      → All (RowFits s.rules) (fold (walked s.rules []) w words).held.rows
  unfolding walk_fault
  walk-fits [] w all e = all
  walk-fits (word ∷ rest) w all e = grind (arith, or_else-none, walked-fits, (walk-fits rest))

-- ---- defaults

default-fits : (c : List Rule) (rows : List Row) (a : Rule) → RuleFits c a → DefaultFits a → All (RowFits c) rows
    → default_fault rows a ≡ [] → All (RowFits c) (with_default rows a)
default-fits c rows a fits one all e = grind (arith, with_values-fits, or_else-none)

defaults-fit : (c : List Rule) (rows : List Row) (rules : List Rule) → All (RuleFits c) rules → All DefaultFits rules
    → All (RowFits c) rows → defaults_fault rows rules ≡ [] → All (RowFits c) (fold with_default rows rules)
unfolding defaults_fault
defaults-fit c rows [] fits one all e = all
defaults-fit c rows (a ∷ rest) fits one all e =
    let parts = or_else-none (default_fault rows a) (defaults_fault (with_default rows a) rest) e in
    let first = default-fits c rows a (All-get_or (RuleFits c) (a ∷ rest) 0 a (omega arith) fits)
    (All-get_or DefaultFits (a ∷ rest) 0 a (omega arith) one) all parts.0 in
    defaults-fit c (with_default rows a) rest (All-drop (RuleFits c) 1 (a ∷ rest) fits)
    (All-drop DefaultFits 1 (a ∷ rest) one) first parts.1

has_row-append : (id : Text) (rows more : List Row) → has_row id rows ≡ true → has_row id (rows ++ more) ≡ true
has_row-append id rows more e = grind (arith, common_steps)

or-true : (b : Bool) → (b || true) ≡ true
or-true b = grind (arith, common_steps)

has_row-last : (id : Text) (rows : List Row) (row : Row) → row.id ≡ id → has_row id (rows ++ row ∷ []) ≡ true
has_row-last id rows row is = grind (arith, common_steps, bytes_eq-Decides, list_any-append, or-true)

default-keeps_row : (id : Text) (rows : List Row) (a : Rule) → has_row id rows ≡ true
    → has_row id (with_default rows a) ≡ true
default-keeps_row id rows a e = grind (arith, common_steps, has_row-append, with_values-new)

defaults-keep_row : (id : Text) (rows : List Row) (rules : List Rule) → has_row id rows ≡ true
    → has_row id (fold with_default rows rules) ≡ true
defaults-keep_row id rows [] e = e
defaults-keep_row id rows (a ∷ rest) e = defaults-keep_row id (with_default rows a) rest (default-keeps_row id rows a e)

default-has_row : (rows : List Row) (a : Rule) (v : Text) → a.defaults ≡ v ∷ []
    → has_row a.id (with_default rows a) ≡ true
default-has_row rows a v one = grind (arith, common_steps, has_row-last, with_values-new)

defaults-have_row : (rows : List Row) (rules : List Rule) (a : Rule) (v : Text) → arg_by_id rules a.id ≡ Some a
    → a.defaults ≡ v ∷ [] → has_row a.id (fold with_default rows rules) ≡ true
defaults-have_row rows [] a v own one = cc
defaults-have_row rows (b ∷ rest) a v own one = go (bytes_eq b.id a.id) own
    (λ own. defaults-have_row (with_default rows b) rest a v own one)
  where
    go : (is : Bool) → cond is (Some b) (arg_by_id rest a.id) ≡ Some a
        → (arg_by_id rest a.id ≡ Some a → has_row a.id (fold with_default (with_default rows b) rest) ≡ true)
        → has_row a.id (fold with_default (with_default rows b) rest) ≡ true
    go true own later =
        let same : b ≡ a = ap (λ (o : Option Rule). unwrap_or o b) own in
        defaults-keep_row a.id (with_default rows b) rest
        (subst (λ x. has_row a.id (with_default rows x) ≡ true) (sym same) (default-has_row rows a v one))
    go false own later = later own

-- a level that passes found one value of each option that it found
pub level-fits : (s : Shape) → s.args_override_self ≡ false → All (RuleFits s.rules) s.rules
    → ((n : ℕ) → arg_by_index s.rules n ≡ None) → All DefaultFits s.rules → (words : List Text)
    → level_fault s [] nothing_held words false [] ≡ []
    → All (RowFits s.rules) (rows_after s.rules [] words) × (check_fault s (rows_after s.rules [] words) false ≡ [])
level-fits s once rules options one words e =
    let end = (walk s.rules [] nothing_held words).held in
    let parts = or_else-none (walk_fault s [] (walk_from nothing_held) words) _ e in
    let later = or_else-none (settle_fault s.rules s.args_override_self end) _ parts.1 in
    let last = or_else-none (defaults_fault (settled s.rules end).rows s.rules) _ later.1 in
    let all = walk-fits s once rules options words (walk_from nothing_held) (All-nil (RowFits s.rules)) parts.0 in
    let rows = settled-fits s.rules s.args_override_self once rules end all later.0 in
    (defaults-fit s.rules (settled s.rules end).rows s.rules rules one rows last.0, last.1)

check_kinds-none : (x y z : Bool) → check_kinds x y z ≡ [] → z ≡ false
check_kinds-none x y z e = grind (arith, common_steps)

-- each option that is required was given
pub none_missing-if_no_fault : (s : Shape) (rows : List Row) → check_fault s rows false ≡ []
    → All (λ a. (a.required && not (is_given a.id rows)) ≡ false) s.rules
none_missing-if_no_fault s rows e = grind (arith, common_steps, check_kinds-none, none-passes)

-- what is found of an option: its row, which has one value
abbrev pub Found : List Row → Rule → Type 0
Found rows a = (r : Row) × (find (λ x. bytes_eq x.id a.id) rows ≡ Some r) × HasOne a r

row-fits : (c : List Rule) (rows : List Row) (a : Rule) → All (RowFits c) rows → arg_by_id c a.id ≡ Some a
    → (r : Row) → find (λ x. bytes_eq x.id a.id) rows ≡ Some r → Found rows a
row-fits c rows a all own r is =
    let found = found-passes (RowFits c) (λ x. bytes_eq x.id a.id) rows r all is in
    let same : r.id ≡ a.id = (bytes_eq-Decides r.id a.id).0 found.1 in
    (r, is, found.0 a (ap (arg_by_id c) same ∙ own))

-- an option that was given is found
pub given-found : (c : List Rule) (rows : List Row) (a : Rule) → All (RowFits c) rows → arg_by_id c a.id ≡ Some a
    → is_given a.id rows ≡ true → Found rows a
given-found c rows a all own e = go (find (λ x. bytes_eq x.id a.id) rows) refl e
  where
    go : (o : Option Row) → find (λ x. bytes_eq x.id a.id) rows ≡ o
        → option_map_or (λ r. explicit_source r.source) o false ≡ true → Found rows a
    go None is e = cc
    go (Some r) is e = row-fits c rows a all own r is

-- an option with a default is found, given or not
pub default-found : (s : Shape) (words : List Text) (a : Rule) (v : Text)
    → All (RowFits s.rules) (rows_after s.rules [] words) → arg_by_id s.rules a.id ≡ Some a → a.defaults ≡ v ∷ []
    → Found (rows_after s.rules [] words) a
default-found s words a v all own one =
    let rows = rows_after s.rules [] words in
    let met = defaults-have_row (settled s.rules (walk s.rules [] nothing_held words).held).rows s.rules a v own one in
    let row = row-found a.id rows met in
    row-fits s.rules rows a all own row.0 row.1

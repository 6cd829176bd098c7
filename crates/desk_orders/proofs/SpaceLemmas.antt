-- No word of an order except `label` contains a space, so a line of these words, joined, has exactly these words. For
-- `label` the first two words are found, and then its text.
use Rattle.std.proofs.Common.{◌≡◌, ℕ, ◌<◌, Bool, true, false, not, List, [], ◌∷◌, codes, refl, sym, ap, subst, ◌∙◌}
use Rattle.std.proofs.Common.{◌==◌, ◌++◌, ◌⊎◌, inl, inr, Ok, arith}
use Rattle.std.specs.Fmt.{decimal}
use Rattle.std.specs.List.{All, AllByRecursion, AllZip, join_with_byte, list_all}
use Rattle.std.specs.Str.Parse.{AllDigits}
use Rattle.std.proofs.lemmas.Bool.{and_parts, ne_eqb}
use Rattle.std.proofs.lemmas.Fmt.{decimal_is_IsNumeral}
use Rattle.std.proofs.lemmas.Str.Parse.{digit_from_value}
use Rattle.std.proofs.lemmas.Bool.Decides.{nat_tests}
use Rattle.std.proofs.lemmas.List.Folds.{list_all_at}
use Rattle.std.proofs.lemmas.List.Elements.{All-append, All-cons, All-nil}
use Rattle.std.proofs.lemmas.List.Splits.{slice_split_none, slice_split_at}
use Rattle.hex.specs.Hex.{decode_of, is_hex_digit}
use Rattle.hex.proofs.HexLemmas.{decode_of-ok}
use Rattle.erp1_telegrams.specs.declared.eep.Eep.{Eep}
use Rattle.desk_orders.specs.Words.{words, Word, Literal, Id, Profile, Number, LabelText}
use Rattle.desk_orders.specs.Words.{SpellsId, SpellsEep, SpellsWord}
use Rattle.desk_orders.specs.declared.orders.Order.{Order}
use Rattle.desk_orders.specs.declared.orders.Order.TheVariants.{LearnOn, Label, Switch, Meter, Central}
use Rattle.desk_orders.specs.declared.orders.Quantity.TheVariants.{Energy, Power}
use Rattle.desk_orders.specs.Orders.{words_of_order}

abbrev IsOther : ℕ → Type 0
IsOther b = (b == 32) ≡ false

abbrev LacksSpace : List ℕ → Type 0
LacksSpace text = All IsOther text

-- a text whose bytes are compared one by one, which computes
lacks : (text : List ℕ) → list_all (λ b. not (b == 32)) text ≡ true → LacksSpace text
lacks text is = λ k d below. grind (arith, nat_tests, list_all_at (λ b. not (b == 32)) text k d)

digit-other : (c : ℕ) → is_hex_digit c ≡ true → IsOther c
digit-other c is = grind (arith, nat_tests)

digits-lack : (digits bytes : List ℕ) → decode_of digits ≡ Ok bytes → LacksSpace digits
digits-lack digits bytes e = λ k d below. digit-other _ ((decode_of-ok digits bytes e).1 k d below)

profile-lacks : (text : List ℕ) (eep : Eep) → SpellsEep text eep → LacksSpace text
profile-lacks text eep spells =
    let dash : LacksSpace (codes "-") = lacks (codes "-") refl in
    let rorg : LacksSpace spells.rorg = digits-lack spells.rorg _ spells.is_rorg in
    let func : LacksSpace spells.func = digits-lack spells.func _ spells.is_func in
    let typ : LacksSpace spells.typ = digits-lack spells.typ _ spells.is_typ in
    subst LacksSpace (sym spells.whole) (search (All-append IsOther))

decimals-lack : (digits : List ℕ) → AllDigits 10 digits → LacksSpace digits
decimals-lack [] are = All-nil IsOther
decimals-lack (d ∷ digits) are =
    let digit = digit_from_value d are.0 in
    All-cons IsOther d digits (ne_eqb d 32 (omega arith)) (decimals-lack digits are.1)

number-lacks : (n : ℕ) → n < 100000 → LacksSpace (decimal n)
number-lacks n below = decimals-lack (decimal n) (decimal_is_IsNumeral n (omega arith)).0.1

-- whether the word's own text, if it has one, certainly has no space
abbrev is_plain : Word → Bool
is_plain (Literal name) = list_all (λ b. not (b == 32)) name
is_plain (Id id) = true
is_plain (Profile eep) = true
is_plain (Number most n) = true
is_plain (LabelText name) = false

word-lacks : (text : List ℕ) (word : Word) → is_plain word ≡ true → SpellsWord text word → LacksSpace text
word-lacks text (Literal name) plain is = subst LacksSpace (sym is) (lacks name plain)
word-lacks text (Id id) plain (bytes, four, decoded, is) = digits-lack text bytes decoded
word-lacks text (Profile eep) plain spells = profile-lacks text eep spells
word-lacks text (Number most n) plain (is, below) = subst LacksSpace (sym is) (number-lacks n below)
word-lacks text (LabelText name) plain spells = absurd cc

words-lack : (texts : List (List ℕ)) (some : List Word) → list_all is_plain some ≡ true → AllZip SpellsWord texts some
    → AllByRecursion LacksSpace texts
words-lack [] some plain spell = tt
words-lack (text ∷ texts) [] plain spell = absurd spell
words-lack (text ∷ texts) (word ∷ more) plain spell =
    let parts = and_parts (is_plain word) (list_all is_plain more) plain in
    (word-lacks text word parts.0 spell.0, words-lack texts more parts.1 spell.1)

pub record IsLabelOrder (order : Order) : Type 0 where
  pub id : ℕ
  pub label : List ℕ
  pub is : order ≡ Label id label

-- no word of an order may contain a space, or the order is `label`
pub plain-words : (order : Order) → (list_all is_plain (words_of_order order) ≡ true) ⊎ IsLabelOrder order
plain-words (Switch id channel true) = inl refl
plain-words (Switch id channel false) = inl refl
plain-words (Meter id channel Energy) = inl refl
plain-words (Meter id channel Power) = inl refl
plain-words (Central offset true) = inl refl
plain-words (Central offset false) = inl refl
plain-words (Label id label) = inr (record { id = id; label = label; is = refl })
plain-words order = inl refl

joined : (text : List ℕ) (texts : List (List ℕ)) → LacksSpace text → AllByRecursion LacksSpace texts
    → words (join_with_byte 32 (text ∷ texts)) ≡ text ∷ texts
joined text [] lack more = slice_split_none (λ b. b == 32) text lack
joined text (next ∷ texts) lack more =
    slice_split_at (λ b. b == 32) text 32 (join_with_byte 32 (next ∷ texts)) lack refl
    ∙ ap (λ (rest : List (List ℕ)). text ∷ rest) (joined next texts more.0 more.1)

-- an order has words
some_words : (order : Order) → AllZip SpellsWord [] (words_of_order order) → ⊥
some_words LearnOn none = none
some_words order none = none

pub words-joined : (order : Order) (texts : List (List ℕ)) → list_all is_plain (words_of_order order) ≡ true
    → AllZip SpellsWord texts (words_of_order order) → words (join_with_byte 32 texts) ≡ texts
words-joined order [] plain spell = absurd (some_words order spell)
words-joined order (text ∷ texts) plain spell =
    let lack = words-lack (text ∷ texts) (words_of_order order) plain spell in
    joined text texts lack.0 lack.1

-- ---- a label

pub id-lacks : (digits : List ℕ) (id : ℕ) → SpellsId digits id → LacksSpace digits
id-lacks digits id (bytes, four, decoded, is) = digits-lack digits bytes decoded

-- the words of a line that begins with `label` and an ID: then those of the text, if there is one
pub label-apart : (digits text : List ℕ) → LacksSpace digits
    → words (codes "label" ++ 32 ∷ (digits ++ 32 ∷ text)) ≡ codes "label" ∷ digits ∷ words text
label-apart digits text lack = grind (arith, slice_split_at, lacks)

pub label-alone : (digits : List ℕ) → LacksSpace digits
    → words (codes "label" ++ 32 ∷ digits) ≡ codes "label" ∷ digits ∷ []
label-alone digits lack = grind (arith, slice_split_at, lacks, slice_split_none)

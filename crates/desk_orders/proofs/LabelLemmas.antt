-- The order `label`: its text, its range, and its line.
use Rattle.std.proofs.Common.{◌≡◌, ℕ, true, false, ◌==◌, List, [], ◌∷◌, refl, sym, subst, Some, arith}
use Rattle.std.proofs.lemmas.Bool.Decides.{nat_tests}
use Rattle.std.specs.Prelude.{Result, Err, MatchResult, codes, length, option_map}
use Rattle.std.specs.Borrow.{Bor}
use Rattle.std.specs.List.{AllZip, join_with_byte}
use Rattle.std.specs.Result.{result_ok}
use Rattle.std.specs.Str.{IsUtf8}
use Rattle.learned_devices.specs.Labels.{is_label, is_label_of_any_length}
use Rattle.learned_devices.proofs.LabelLemmas.{name-utf8}
use Rattle.desk_orders.specs.Words.{Literal, Id, LabelText, SpellsWord, id_in, is_nonempty_label, label_in}
use Rattle.desk_orders.specs.Words.{label_if_well_formed}
use Rattle.desk_orders.specs.declared.orders.Order.TheVariants.{Label}
use Rattle.desk_orders.specs.declared.orders.OrderFault.TheVariants.{Range}
use Rattle.desk_orders.specs.Orders.{SpellsButForRange, label_order_of_arguments, words_of_label, order_or_fault}
use Rattle.desk_orders.proofs.SpellingLemmas.{id_spelled, text_spelled}

-- ---- its text

-- as UTF-8 it is read whole
module _ {E : Type 0} (Bad : E → Type 0) where
  pub text-given : (text : List ℕ) (r : Result (Bor (List ℕ)) E) → (length text == 0) ≡ false
      → is_label_of_any_length text ≡ true
      → MatchResult r (λ s. (s.now ≡ text) × IsUtf8 text) Bad → ((e : E) → Bad e → ¬ (IsUtf8 text))
      → option_map (λ name. name.now) (result_ok r) ≡ label_if_well_formed text
  text-given text r some is cases bad = grind (arith, name-utf8)

-- and the text after the ID is a label of any length
pub label_named : (more : List (List ℕ)) (text : List ℕ) → label_in more ≡ Some text
    → is_label_of_any_length text ≡ true
label_named more text e = grind arith

-- ---- its range

-- a text that is no label is too long
too_long : (id : ℕ) (text : List ℕ) → is_label_of_any_length text ≡ true → (is_label text ≡ true → ⊥)
    → order_or_fault (Some (Label id text)) ≡ Err Range
too_long id text is none = grind (arith, nat_tests)

pub label-not_taken : (left : List (List ℕ)) (digits : List ℕ) (more : List (List ℕ)) (id : ℕ) (text : List ℕ)
    → left ≡ digits ∷ more → id_in digits ≡ Some id → label_in more ≡ Some text → (is_label text ≡ true → ⊥)
    → order_or_fault (label_order_of_arguments left) ≡ Err Range
label-not_taken left digits more id text whole id_is text_is none = grind (arith, too_long, label_named)

-- ---- its line

-- a text that has bytes is a word
one_word : (text : List ℕ) → is_nonempty_label text ≡ true → words_of_label text ≡ LabelText text ∷ []
one_word text may = grind arith

-- what is read after the name has the shape of the order
pub label_shaped : (digits : List ℕ) (more : List (List ℕ)) (id : ℕ) (label : List ℕ) → id_in digits ≡ Some id
    → label_in more ≡ Some label
    → SpellsButForRange (join_with_byte 32 (codes "label" ∷ digits ∷ more)) (Label id label)
label_shaped digits [] id label id_is label_is =
    let none : [] ≡ label = cc in
    subst (λ l. SpellsButForRange (join_with_byte 32 (codes "label" ∷ digits ∷ [])) (Label id l)) none
    (codes "label" ∷ digits ∷ [], refl, (refl, (id_spelled digits id id_is, tt)))
label_shaped digits (first ∷ more) id label id_is label_is =
    let text = join_with_byte 32 (first ∷ more) in
    let spelled = text_spelled text label label_is in
    let texts : List (List ℕ) = codes "label" ∷ digits ∷ text ∷ [] in (
      texts,
      refl,
      subst (λ ws. AllZip SpellsWord texts (Literal (codes "label") ∷ Id id ∷ ws))
          (sym (one_word label spelled.1))
          (refl, (id_spelled digits id id_is, (spelled, tt))),
    )

-- The computed order of a line is the one that the line spells.
use Rattle.std.proofs.Common.{◌≡◌, ℕ, Bool, true, false, cond, List, [], ◌∷◌, refl, sym, ap, ◌∙◌, subst, Option, Some}
use Rattle.std.proofs.Common.{None, ◌&&◌, ◌⊎◌, arith}
use Rattle.std.specs.Prelude.{Ok, Err, codes, bytes_eq, option_map}
use Rattle.std.specs.List.{AllByRecursion, AllZip, join_with_byte, list_all}
use Rattle.std.proofs.lemmas.Bool.{and_parts, and_from}
use Rattle.std.proofs.lemmas.Bool.Decides.{nat_tests}
use Rattle.std.proofs.lemmas.List.Splits.{join_with_byte-slice_split}
use Rattle.std.proofs.lemmas.Slice.Zip.{AllZip-long}
use Rattle.desk_orders.specs.Words.{words, Word, SpellsWord, IsWordInRange}
use Rattle.desk_orders.specs.Words.{is_word_in_range, id_in, map_two, map_three, label_in}
use Rattle.desk_orders.specs.declared.orders.Order.{Order}
use Rattle.desk_orders.specs.declared.orders.Order.TheVariants.{LearnOn, LearnOnAnswer, LearnAs, LearnOff, Add, Remove}
use Rattle.desk_orders.specs.declared.orders.Order.TheVariants.{Label, List as ListAll, Status, Base, Switch, Dim}
use Rattle.desk_orders.specs.declared.orders.Order.TheVariants.{Query, Meter, Blind, Stop, Central, Level, Teach}
use Rattle.desk_orders.specs.declared.orders.OrderFault.{OrderFault}
use Rattle.desk_orders.specs.declared.orders.OrderFault.TheVariants.{Syntax, Range}
use Rattle.desk_orders.specs.Orders.{words_of_order, SpellsButForRange, IsInRange}
use Rattle.desk_orders.specs.Orders.{order_except_label, label_order_of_arguments}
use Rattle.desk_orders.specs.Orders.{order_of_words, order_or_fault, order_of, OrdersAreSpelled}
use Rattle.desk_orders.proofs.LabelLemmas.{label_shaped}
use Rattle.desk_orders.proofs.NumberLemmas.{number_spelled, number_read}
use Rattle.desk_orders.proofs.SpaceLemmas.{plain-words, words-joined, id-lacks, label-apart, label-alone}
use Rattle.desk_orders.proofs.SpellingLemmas.{named, id_spelled, id_read, eep_spelled, eep_read, state_spelled}
use Rattle.desk_orders.proofs.SpellingLemmas.{state_read, quantity_spelled, quantity_read, text_read}
use Rattle.desk_orders.proofs.WordLemmas.{label_whole}

-- ---- the shape

-- the words have the shape of the order, if there is one
Fits : List (List ℕ) → Option Order → Type 0
Fits ws None = Unit {0}
Fits ws (Some order) = AllZip SpellsWord ws (words_of_order order)

fits_if : (ws : List (List ℕ)) (b : Bool) (o else' : Option Order) → (b ≡ true → Fits ws o) → Fits ws else'
    → Fits ws (cond b o else')
fits_if ws true o else' if_true if_false = if_true refl
fits_if ws false o else' if_true if_false = if_false

fits_named : (ws : List (List ℕ)) (text name : List ℕ) (o else' : Option Order) → (text ≡ name → Fits ws o)
    → Fits ws else' → Fits ws (cond (bytes_eq text name) o else')
fits_named ws text name o else' if_named = fits_if ws (bytes_eq text name) o else' (λ e. if_named (named text name e))

fits_two_named : (ws : List (List ℕ)) (a b first second : List ℕ) (o else' : Option Order)
    → (a ≡ first → b ≡ second → Fits ws o) → Fits ws else'
    → Fits ws (cond (bytes_eq a first && bytes_eq b second) o else')
fits_two_named ws a b first second o else' if_named = grind (arith, fits_if, and_parts, named)

module _ {A : Type 0} where
  fits_map : (ws : List (List ℕ)) (make : A → Order) (a : Option A)
      → ((x : A) → a ≡ Some x → AllZip SpellsWord ws (words_of_order (make x))) → Fits ws (option_map make a)
  unfolding Fits
  fits_map ws make None fits = tt
  fits_map ws make (Some x) fits = fits x refl

module _ {A B : Type 0} where
  fits_map_two : (ws : List (List ℕ)) (make : A → B → Order) (a : Option A) (b : Option B)
      → ((x : A) (y : B) → a ≡ Some x → b ≡ Some y → AllZip SpellsWord ws (words_of_order (make x y)))
      → Fits ws (map_two make a b)
  unfolding Fits
  fits_map_two ws make None b fits = tt
  fits_map_two ws make (Some x) b fits = fits_map ws (make x) b (λ y is. fits x y refl is)

module _ {A B C : Type 0} where
  fits_map_three : (ws : List (List ℕ)) (make : A → B → C → Order) (a : Option A) (b : Option B) (c : Option C)
      → ((x : A) (y : B) (z : C) → a ≡ Some x → b ≡ Some y → c ≡ Some z
      → AllZip SpellsWord ws (words_of_order (make x y z)))
      → Fits ws (map_three make a b c)
  unfolding Fits
  fits_map_three ws make None b c fits = tt
  fits_map_three ws make (Some x) b c fits = fits_map_two ws (make x) b c (λ y z is was. fits x y z refl is was)

ruleset spelled = (id_spelled, eep_spelled, number_spelled, state_spelled, quantity_spelled)

ruleset shapes = (fits_named, fits_two_named, fits_map, fits_map_two, fits_map_three, spelled)

fits : (ws : List (List ℕ)) → Fits ws (order_except_label ws)
unfolding Fits
fits [] = tt
fits (a ∷ []) = search shapes depth 12
fits (a ∷ b ∷ []) = search shapes depth 12
fits (a ∷ b ∷ c ∷ []) = search shapes depth 12
fits (a ∷ b ∷ c ∷ d ∷ []) = search shapes depth 12
fits (a ∷ b ∷ c ∷ d ∷ e ∷ more) = tt

shaped_label : (digits : List ℕ) (more : List (List ℕ)) (i : Option ℕ) (t : Option (List ℕ)) (order : Order)
    → id_in digits ≡ i → label_in more ≡ t → map_two (λ id label. Label id label) i t ≡ Some order
    → SpellsButForRange (join_with_byte 32 (codes "label" ∷ digits ∷ more)) order
shaped_label digits more (Some id) (Some label) order is may e =
    let same : Label id label ≡ order = cc in
    subst (SpellsButForRange (join_with_byte 32 (codes "label" ∷ digits ∷ more))) same
    (label_shaped digits more id label is may)
shaped_label digits more i t order is may e = absurd cc

-- the line of the joined words has the shape of the order
shaped : (ws : List (List ℕ)) (order : Order) → order_of_words ws ≡ Some order
    → SpellsButForRange (join_with_byte 32 ws) order
unfolding Fits
shaped [] order e = absurd cc
shaped (name ∷ more) order e = by_name (bytes_eq name (codes "label")) refl e
  where
    by_arguments : (more : List (List ℕ)) → label_order_of_arguments more ≡ Some order
        → SpellsButForRange (join_with_byte 32 (codes "label" ∷ more)) order
    by_arguments [] e = absurd cc
    by_arguments (digits ∷ more) e = shaped_label digits more (id_in digits) (label_in more) order refl refl e

    by_name : (b : Bool) → bytes_eq name (codes "label") ≡ b
        → cond b (label_order_of_arguments more) (order_except_label (name ∷ more)) ≡ Some order
        → SpellsButForRange (join_with_byte 32 (name ∷ more)) order
    by_name true is e =
        subst (λ n. SpellsButForRange (join_with_byte 32 (n ∷ more)) order) (sym (named name (codes "label") is))
        (by_arguments more e)
    by_name false is e = (name ∷ more, refl, subst (Fits (name ∷ more)) e (fits (name ∷ more)))

-- words that spell those of an order are read as this order
read : (order : Order) (ws : List (List ℕ)) → AllZip SpellsWord ws (words_of_order order)
    → order_of_words ws ≡ Some order
read LearnOn (a ∷ b ∷ []) (is_a, (is_b, _)) = rw (is_a, is_b) refl
read LearnOnAnswer (a ∷ b ∷ c ∷ []) (is_a, (is_b, (is_c, _))) = rw (is_a, is_b, is_c) refl
read (LearnAs eep) (a ∷ b ∷ c ∷ []) (is_a, (is_b, (is_c, _))) = rw (is_a, is_b, eep_read c eep is_c) refl
read LearnOff (a ∷ b ∷ []) (is_a, (is_b, _)) = rw (is_a, is_b) refl
read (Add id eep) (a ∷ b ∷ c ∷ []) (is_a, (is_b, (is_c, _))) = rw (is_a, id_read b id is_b, eep_read c eep is_c) refl
read (Remove id) (a ∷ b ∷ []) (is_a, (is_b, _)) = rw (is_a, id_read b id is_b) refl
read (Label id []) (a ∷ b ∷ []) (is_a, (is_b, _)) = rw (is_a, id_read b id is_b) refl
read (Label id (first ∷ more)) (a ∷ b ∷ c ∷ []) (is_a, (is_b, (is_c, _))) =
    rw (is_a, id_read b id is_b, text_read c (first ∷ more) is_c) refl
read ListAll (a ∷ []) (is_a, _) = rw is_a refl
read Status (a ∷ []) (is_a, _) = rw is_a refl
read Base (a ∷ []) (is_a, _) = rw is_a refl
read (Switch id channel on) (a ∷ b ∷ c ∷ d ∷ []) (is_a, (is_b, (is_c, (is_d, _)))) =
    rw (is_a, id_read b id is_b, number_read c channel is_c, is_d, state_read on) refl
read (Dim id channel value) (a ∷ b ∷ c ∷ d ∷ []) (is_a, (is_b, (is_c, (is_d, _)))) =
    rw (is_a, id_read b id is_b, number_read c channel is_c, number_read d value is_d) refl
read (Query id channel) (a ∷ b ∷ c ∷ []) (is_a, (is_b, (is_c, _))) =
    rw (is_a, id_read b id is_b, number_read c channel is_c) refl
read (Meter id channel quantity) (a ∷ b ∷ c ∷ d ∷ []) (is_a, (is_b, (is_c, (is_d, _)))) =
    rw (is_a, id_read b id is_b, number_read c channel is_c, is_d, quantity_read quantity) refl
read (Blind id value) (a ∷ b ∷ c ∷ []) (is_a, (is_b, (is_c, _))) =
    rw (is_a, id_read b id is_b, number_read c value is_c) refl
read (Stop id) (a ∷ b ∷ []) (is_a, (is_b, _)) = rw (is_a, id_read b id is_b) refl
read (Central offset on) (a ∷ b ∷ c ∷ []) (is_a, (is_b, (is_c, _))) =
    rw (is_a, number_read b offset is_b, is_c, state_read on) refl
read (Level offset value ramp) (a ∷ b ∷ c ∷ d ∷ []) (is_a, (is_b, (is_c, (is_d, _)))) =
    rw (is_a, number_read b offset is_b, number_read c value is_c, number_read d ramp is_d) refl
read (Teach offset) (a ∷ b ∷ []) (is_a, (is_b, _)) = rw (is_a, number_read b offset is_b) refl
read order ws h = absurd (omega (arith, AllZip-long SpellsWord ws (words_of_order order) h))

-- ---- the range

word-in_range : (word : Word) → is_word_in_range word ≡ true → IsWordInRange word
word-in_range word is = grind (arith, nat_tests)

word_tested : (word : Word) → IsWordInRange word → is_word_in_range word ≡ true
word_tested word is = grind (arith, nat_tests)

words-in_range : (some : List Word) → list_all is_word_in_range some ≡ true → AllByRecursion IsWordInRange some
words-in_range [] is = tt
words-in_range (word ∷ some) is =
    let parts = and_parts _ _ is in (word-in_range word parts.0, words-in_range some parts.1)

words_tested : (some : List Word) → AllByRecursion IsWordInRange some → list_all is_word_in_range some ≡ true
words_tested [] is = refl
words_tested (word ∷ some) is = and_from _ _ (word_tested word is.0) (words_tested some is.1)

-- ---- both

-- the words of a line with the shape of `label` are read as its texts
label_joined : (id : ℕ) (label : List ℕ) (texts : List (List ℕ))
    → AllZip SpellsWord texts (words_of_order (Label id label))
    → order_of_words (words (join_with_byte 32 texts)) ≡ order_of_words texts
label_joined id [] (a ∷ b ∷ []) (is_a, (is_b, _)) =
    rw is_a (ap order_of_words (label-alone b (id-lacks b id is_b)))
label_joined id (first ∷ more) (a ∷ b ∷ c ∷ []) (is_a, (is_b, (is_c, _))) =
    rw is_a
    (ap order_of_words (label-apart b c (id-lacks b id is_b))
    ∙ ap (λ o. map_two (λ id label. Label id label) (id_in b) o) (label_whole c))
label_joined id label texts h = absurd (omega (arith, AllZip-long SpellsWord texts (words_of_order (Label id label)) h))

-- and those of any order
read_joined : (order : Order) (texts : List (List ℕ)) → AllZip SpellsWord texts (words_of_order order)
    → order_of_words (words (join_with_byte 32 texts)) ≡ order_of_words texts
read_joined order texts spell = grind (arith, plain-words, words-joined, label_joined)

-- a line with the shape of an order is read as its range requires
in_shape : (line : List ℕ) (order : Order) → SpellsButForRange line order → order_of line ≡ order_or_fault (Some order)
in_shape line order (texts, is, spell) = grind (arith, read_joined, read)

accepted : (o : Option Order) (order : Order) → order_or_fault o ≡ Ok order
    → (o ≡ Some order) × (list_all is_word_in_range (words_of_order order) ≡ true)
accepted o order e = grind arith

out_of_range : (o : Option Order) → order_or_fault o ≡ Err Range
    → (order : Order) × (o ≡ Some order) × (list_all is_word_in_range (words_of_order order) ≡ false)
out_of_range None e = absurd cc
out_of_range (Some order) e = (order, refl, grind (arith, e))

pub orders_are_spelled : OrdersAreSpelled
orders_are_spelled = record {
  spelled = λ line order e.
      let is = accepted (order_of_words (words line)) order e in (
        rw join_with_byte-slice_split at (shaped (words line) order is.0),
        words-in_range (words_of_order order) is.1,
      );
  only = λ line order spells.
      in_shape line order spells.0
      ∙ ap (λ b. cond b (Ok order) (Err Range)) (words_tested (words_of_order order) spells.1);
  out_of_range = λ line e.
      let is = out_of_range (order_of_words (words line)) e in (
        is.0,
        rw join_with_byte-slice_split at (shaped (words line) is.0 is.1),
        λ in_range. (let tested = words_tested (words_of_order is.0) in_range in let not = is.2 in cc),
      );
  syntax_error_has_no_order = λ line e order shape. (let is = in_shape line order shape in grind arith);
}

-- ---- for callers

-- a line's order has its numbers in range
pub parsed-in_range : (line : List ℕ) (order : Order) → order_of line ≡ Ok order → IsInRange order
parsed-in_range line order e = (orders_are_spelled.spelled line order e).1

-- and a rejected line has one of two faults
pub parsed-fault : (line : List ℕ) (fault : OrderFault) → order_of line ≡ Err fault
    → (fault ≡ Syntax) ⊎ (fault ≡ Range)
parsed-fault line fault e = grind arith

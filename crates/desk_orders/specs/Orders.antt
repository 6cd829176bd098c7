-- The orders that a line of the desk spells. Own choice: words are literal, with exactly one space between two of them.
use Rattle.std.specs.Prelude.{◌≡◌, ℕ, Bool, ◌&&◌, List, [], ◌∷◌, codes, bytes_eq, Option, Some, None, Result, Ok, Err}
use Rattle.std.specs.Prelude.{option_map, if◌then◌else◌}
use Rattle.std.specs.List.{AllByRecursion, AllZip, join_with_byte, list_all}
use Rattle.desk_orders.specs.Limits.{max_channel, max_offset, max_percent, max_ramp}
use Rattle.desk_orders.specs.Words.{words, Word, Literal, Id, Profile, Number, LabelText, SpellsWord, IsWordInRange}
use Rattle.desk_orders.specs.Words.{state_name, quantity_name, is_word_in_range, id_in, eep_in, number_in, state_in}
use Rattle.desk_orders.specs.Words.{quantity_in, label_in, map_two, map_three}
use Rattle.desk_orders.specs.declared.orders.Order.{Order}
use Rattle.desk_orders.specs.declared.orders.Order.TheVariants.{LearnOn, LearnOnAnswer, LearnAs, LearnOff, Add, Remove}
use Rattle.desk_orders.specs.declared.orders.Order.TheVariants.{Label, List as ListAll, Status, Base, Switch, Dim}
use Rattle.desk_orders.specs.declared.orders.Order.TheVariants.{Query, Meter, Blind, Stop, Central, Level, Teach}
use Rattle.desk_orders.specs.declared.orders.OrderFault.{OrderFault}
use Rattle.desk_orders.specs.declared.orders.OrderFault.TheVariants.{Syntax, Range}

-- the words of a label: one, or none if it is empty. Own choice.
abbrev pub words_of_label : List ℕ → List Word
words_of_label [] = []
words_of_label (first ∷ more) = LabelText (first ∷ more) ∷ []

-- The table of the orders: the words of each, as written in its lines. Own choice.
abbrev pub words_of_order : Order → List Word
words_of_order LearnOn = Literal (codes "learn") ∷ Literal (codes "on") ∷ []
words_of_order LearnOnAnswer = Literal (codes "learn") ∷ Literal (codes "on") ∷ Literal (codes "answer") ∷ []
words_of_order (LearnAs eep) = Literal (codes "learn") ∷ Literal (codes "as") ∷ Profile eep ∷ []
words_of_order LearnOff = Literal (codes "learn") ∷ Literal (codes "off") ∷ []
words_of_order (Add id eep) = Literal (codes "add") ∷ Id id ∷ Profile eep ∷ []
words_of_order (Remove id) = Literal (codes "remove") ∷ Id id ∷ []
words_of_order (Label id label) = Literal (codes "label") ∷ Id id ∷ words_of_label label
words_of_order ListAll = Literal (codes "list") ∷ []
words_of_order Status = Literal (codes "status") ∷ []
words_of_order Base = Literal (codes "base") ∷ []
words_of_order (Switch id channel on) =
    Literal (codes "switch") ∷ Id id ∷ Number max_channel channel ∷ Literal (state_name on) ∷ []
words_of_order (Dim id channel value) =
    Literal (codes "dim") ∷ Id id ∷ Number max_channel channel ∷ Number max_percent value ∷ []
words_of_order (Query id channel) = Literal (codes "query") ∷ Id id ∷ Number max_channel channel ∷ []
words_of_order (Meter id channel quantity) =
    Literal (codes "meter") ∷ Id id ∷ Number max_channel channel ∷ Literal (quantity_name quantity) ∷ []
words_of_order (Blind id value) = Literal (codes "blind") ∷ Id id ∷ Number max_percent value ∷ []
words_of_order (Stop id) = Literal (codes "stop") ∷ Id id ∷ []
words_of_order (Central offset on) = Literal (codes "central") ∷ Number max_offset offset ∷ Literal (state_name on) ∷ []
words_of_order (Level offset value ramp) =
    Literal (codes "level") ∷ Number max_offset offset ∷ Number max_percent value ∷ Number max_ramp ramp ∷ []
words_of_order (Teach offset) = Literal (codes "teach") ∷ Number max_offset offset ∷ []

-- The line has the shape of the order, whatever its numbers: texts that spell the order's words, one by one, with one
-- space between each two and none before or after. Own choice.
abbrev pub SpellsButForRange : (line : List ℕ) → Order → Type 0
SpellsButForRange line order =
    (texts : List (List ℕ)) × (line ≡ join_with_byte 32 texts) × AllZip SpellsWord texts (words_of_order order)

-- the order's numbers are in range, and the length of its label
abbrev pub IsInRange : Order → Type 0
IsInRange order = AllByRecursion IsWordInRange (words_of_order order)

-- the line spells the order
abbrev pub Spells : (line : List ℕ) → Order → Type 0
Spells line order = SpellsButForRange line order × IsInRange order

-- ---- the same as functions; theorem `orders_are_spelled`: the two agree

-- whether the order's numbers are in range, and the length of its label
abbrev pub is_in_range : Order → Bool
is_in_range order = list_all is_word_in_range (words_of_order order)

-- the order of one word; those of more words, except `label`, follow
abbrev pub one_word_order : (name : List ℕ) → Option Order
one_word_order name =
    if bytes_eq name (codes "list") then Some ListAll
    else if bytes_eq name (codes "status") then Some Status
    else if bytes_eq name (codes "base") then Some Base
    else None

abbrev pub two_word_learn_order : (second : List ℕ) → Option Order
two_word_learn_order second =
    if bytes_eq second (codes "on") then Some LearnOn
    else if bytes_eq second (codes "off") then Some LearnOff
    else None

abbrev pub three_word_learn_order : (second third : List ℕ) → Option Order
three_word_learn_order second third =
    if bytes_eq second (codes "on") && bytes_eq third (codes "answer") then Some LearnOnAnswer
    else if bytes_eq second (codes "as") then option_map (λ eep. LearnAs eep) (eep_in third)
    else None

abbrev pub two_word_order : (name second : List ℕ) → Option Order
two_word_order name second =
    if bytes_eq name (codes "learn") then two_word_learn_order second
    else if bytes_eq name (codes "remove") then option_map (λ id. Remove id) (id_in second)
    else if bytes_eq name (codes "stop") then option_map (λ id. Stop id) (id_in second)
    else if bytes_eq name (codes "teach") then option_map (λ offset. Teach offset) (number_in second)
    else None

abbrev pub three_word_order : (name second third : List ℕ) → Option Order
three_word_order name second third =
    if bytes_eq name (codes "learn") then three_word_learn_order second third
    else if bytes_eq name (codes "add") then map_two (λ id eep. Add id eep) (id_in second) (eep_in third)
    else if bytes_eq name (codes "query") then map_two (λ id channel. Query id channel) (id_in second) (number_in third)
    else if bytes_eq name (codes "blind") then map_two (λ id value. Blind id value) (id_in second) (number_in third)
    else if bytes_eq name (codes "central")
    then map_two (λ offset on. Central offset on) (number_in second) (state_in third)
    else None

abbrev pub four_word_order : (name second third fourth : List ℕ) → Option Order
four_word_order name second third fourth =
    if bytes_eq name (codes "switch")
    then map_three (λ id channel on. Switch id channel on) (id_in second) (number_in third) (state_in fourth)
    else if bytes_eq name (codes "dim")
    then map_three (λ id channel value. Dim id channel value) (id_in second) (number_in third) (number_in fourth)
    else if bytes_eq name (codes "meter")
    then map_three (λ id channel quantity. Meter id channel quantity) (id_in second) (number_in third)
    (quantity_in fourth)
    else if bytes_eq name (codes "level")
    then map_three (λ offset value ramp. Level offset value ramp) (number_in second) (number_in third)
    (number_in fourth)
    else None

-- the order, except `label`, whose shape the words have
abbrev pub order_except_label : (texts : List (List ℕ)) → Option Order
order_except_label (name ∷ []) = one_word_order name
order_except_label (name ∷ second ∷ []) = two_word_order name second
order_except_label (name ∷ second ∷ third ∷ []) = three_word_order name second third
order_except_label (name ∷ second ∷ third ∷ fourth ∷ []) = four_word_order name second third fourth
order_except_label texts = None

-- the order that begins with `label`, by the words after it: those of its text are joined again
abbrev pub label_order_of_arguments : List (List ℕ) → Option Order
label_order_of_arguments [] = None
label_order_of_arguments (digits ∷ more) = map_two (λ id label. Label id label) (id_in digits) (label_in more)

abbrev pub order_of_words : List (List ℕ) → Option Order
order_of_words [] = None
order_of_words (name ∷ more) =
    if bytes_eq name (codes "label") then label_order_of_arguments more else order_except_label (name ∷ more)

-- an order of this shape is accepted if it is in range
abbrev pub order_or_fault : Option Order → Result Order OrderFault
order_or_fault (Some order) = if is_in_range order then Ok order else Err Range
order_or_fault None = Err Syntax

-- the order that a line spells, or why it spells none
abbrev pub order_of : (line : List ℕ) → Result Order OrderFault
order_of line = order_or_fault (order_of_words (words line))

-- A line spells at most one order, by `only`. A line that spells none is out of range if it has the shape of one, and
-- otherwise no order.
pub record OrdersAreSpelled : Type 0 where
  pub spelled : (line : List ℕ) (order : Order) → order_of line ≡ Ok order → Spells line order
  pub only : (line : List ℕ) (order : Order) → Spells line order → order_of line ≡ Ok order
  pub out_of_range : (line : List ℕ) → order_of line ≡ Err Range
      → (order : Order) × SpellsButForRange line order × (¬ IsInRange order)
  pub syntax_error_has_no_order : (line : List ℕ) → order_of line ≡ Err Syntax → (order : Order)
      → ¬ SpellsButForRange line order

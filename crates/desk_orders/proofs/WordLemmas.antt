-- The first word of a line, and a text that was split at its spaces.
use Rattle.std.proofs.Common.{◌≡◌, ℕ, ◌+◌, ◌<◌, ◌==◌, Bool, eqb, List, [], ◌∷◌, length, take, drop}
use Rattle.std.proofs.Common.{refl, sym, ap, ◌∙◌, arith, Some, None}
use Rattle.std.specs.List.{join_with_byte, position_or_len, position}
use Rattle.std.proofs.lemmas.List.Splits.{slice_split_first, slice_split-cons_no, join_with_byte-slice_split}
use Rattle.std.proofs.lemmas.List.Splits.{length-slice_split}
use Rattle.std.proofs.lemmas.Bool.Decides.{nat_tests}
use Rattle.desk_orders.specs.Words.{label_if_well_formed, label_in, words}

abbrev is_space : ℕ → Bool
is_space b = eqb b 32

-- a line contains a space
abbrev IsFound : List ℕ → Type 0
IsFound xs = position_or_len is_space xs < length xs

one_word : (xs : List ℕ) → ¬ IsFound xs → words xs ≡ xs ∷ []
one_word [] none = refl
one_word (x ∷ xs) none = grind (arith, nat_tests, slice_split-cons_no, one_word xs)

-- if a space is found, the first word ends there
pub words-found : (xs : List ℕ) (at : ℕ) → Some at ≡ position is_space xs
    → words xs ≡ take at xs ∷ words (drop (at + 1) xs)
words-found xs at e = grind (arith, nat_tests, slice_split_first is_space xs 0)

-- if none is found, the line is one word
pub words-none : (xs : List ℕ) → None ≡ position is_space xs → words xs ≡ xs ∷ []
words-none xs e = one_word xs (grind (arith, nat_tests))

-- the text of a label is read from its words as from the whole text
pub label_whole : (text : List ℕ) → label_in (words text) ≡ label_if_well_formed text
label_whole text = by_words (words text) refl
  where
    by_words : (ws : List (List ℕ)) → words text ≡ ws → label_in ws ≡ label_if_well_formed text
    by_words [] e =
        let none : 0 ≡ length (words text) = ap length (sym e) in
        absurd (omega (arith, none, length-slice_split (λ b. b == 32) text))
    by_words (first ∷ more) e =
        ap label_if_well_formed (ap (join_with_byte 32) (sym e) ∙ join_with_byte-slice_split 32 text)

-- An element of a list, and what is around it; and how much of a list fits.
use Rattle.std.proofs.Common.{◌≡◌, ℕ, ◌+◌, ◌-◌, ◌<◌, ◌≤◌, List, [], ◌∷◌, ◌++◌, length, get_or, take}
use Rattle.std.proofs.Common.{drop, ap, refl, sym, ◌∙◌, append_assoc, arith, min, true, zero, suc}
use Rattle.std.specs.Prelude.{◌==◌, slice_index}
use Rattle.std.proofs.Math.Seq.{take-append-add, take-add}
use Rattle.std.proofs.lemmas.Bool.{eqb-true}
use Rattle.std.proofs.lemmas.List.{take-append-drop, take_min, take_more, take_all, length-drop}

-- some first elements, and some of those after them
pub take_front : (xs : List ℕ) (i n : ℕ) → take (i + n) xs ≡ take i xs ++ take n (take (length xs - i) (drop i xs))
take_front xs i n =
    take-add i n xs
    ∙ ap (λ ys. take i xs ++ take n ys) (sym (take_all (length xs - i) (drop i xs) (omega (arith, length-drop i xs))))

pub split_rest : (xs : List ℕ) (i : ℕ) → take i xs ++ take (length xs - i) (drop i xs) ≡ xs
split_rest xs i =
    ap (λ ys. take i xs ++ ys) (take_all (length xs - i) (drop i xs) (omega (arith, length-drop i xs)))
    ∙ take-append-drop i xs

-- an element that is known, and what is around it
pub split_round : (xs : List ℕ) (i x : ℕ) → i < length xs → (slice_index xs i == x) ≡ true
    → xs ≡ take i xs ++ x ∷ drop (i + 1) xs
split_round xs i x below is =
    sym (take-append-drop (i + 1) xs) ∙ ap (λ s. s ++ drop (i + 1) xs) (take_more xs i 0 below)
    ∙ append_assoc (take i xs) (get_or xs i 0 ∷ []) (drop (i + 1) xs)
    ∙ ap (λ y. take i xs ++ y ∷ drop (i + 1) xs) (eqb-true (get_or xs i 0) x is)

-- what fits after some elements
pub take-append : (n : ℕ) (xs ys : List ℕ) → length xs ≤ n
    → take n (xs ++ ys) ≡ xs ++ take (min (n - length xs) (length ys)) ys
take-append n xs ys fits =
    let e : n ≡ length xs + (n - length xs) = omega arith in
    ap (λ k. take k (xs ++ ys)) e ∙ take-append-add xs ys (n - length xs)
    ∙ ap (λ zs. xs ++ zs) (sym (take_min (n - length xs) ys))

-- what fits of more after what fits
pub take_take : (n : ℕ) (xs more : List ℕ) → take n (take n xs ++ more) ≡ take n (xs ++ more)
take_take zero xs more = refl
take_take (suc n) [] more = refl
take_take (suc n) (x ∷ xs) more = ap (λ ys. x ∷ ys) (take_take n xs more)

-- Lists of bits, and their numbers.
use Rattle.std.proofs.Common.{◌≡◌, ℕ, ◌+◌, ◌*◌, ◌^◌, ◌<◌, List, [], ◌∷◌, ◌++◌, length, refl}
use Rattle.std.proofs.Common.{sym, ap, ◌∙◌, arith, length-append, append_assoc, suc, zero, take, drop, lit<}
use Rattle.std.proofs.lemmas.Nat.{pow-add, mul-le, same_from_place}
use Rattle.std.proofs.Math.Nat.{pow-suc}
use Rattle.bit_fields.specs.Bits.{number}

-- each is 0 or 1
abbrev pub AreBits : List ℕ → Type 0
AreBits [] = Unit {0}
AreBits (x ∷ xs) = (x < 2) × AreBits xs

pub AreBits-take : (n : ℕ) (xs : List ℕ) → AreBits xs → AreBits (take n xs)
AreBits-take zero xs h = tt
AreBits-take (suc n) [] h = tt
AreBits-take (suc n) (x ∷ xs) h = (h.0, AreBits-take n xs h.1)

pub AreBits-drop : (n : ℕ) (xs : List ℕ) → AreBits xs → AreBits (drop n xs)
AreBits-drop zero xs h = h
AreBits-drop (suc n) [] h = tt
AreBits-drop (suc n) (x ∷ xs) h = AreBits-drop n xs h.1

pub number-append : (xs ys : List ℕ) → number (xs ++ ys) ≡ number xs * 2 ^ length ys + number ys
unfolding number
number-append [] ys = omega arith
number-append (x ∷ xs) ys =
    grind (arith, number-append xs ys, length-append xs ys, pow-add 2 (length xs) (length ys))

pub number-three : (xs ys zs : List ℕ) →
    number (xs ++ (ys ++ zs)) ≡ (number xs * 2 ^ length ys + number ys) * 2 ^ length zs + number zs
number-three xs ys zs = rw (← append_assoc xs ys zs, number-append (xs ++ ys) zs, number-append xs ys)

pub number-below : (xs : List ℕ) → AreBits xs → number xs < 2 ^ length xs
unfolding number
number-below [] h = lit< tt
number-below (x ∷ xs) h =
    grind (arith, number-below xs h.1, pow-suc 2 (length xs), mul-le x (2 ^ length xs) 1 (2 ^ length xs))

-- lists of bits with the same number and length are equal
pub same_from_number : (xs ys : List ℕ) → AreBits xs → AreBits ys → length xs ≡ length ys → number xs ≡ number ys
    → xs ≡ ys
unfolding number
same_from_number [] [] h k l e = refl
same_from_number (x ∷ xs) (y ∷ ys) h k l e =
    let same : length xs ≡ length ys = omega arith in
    let below_y : number ys < 2 ^ length xs = rw same (number-below ys k.1) in
    let sum : x * 2 ^ length xs + number xs ≡ y * 2 ^ length xs + number ys =
    e ∙ ap (λ n. y * 2 ^ n + number ys) (sym same) in
    let parts = same_from_place x (number xs) y (number ys) (2 ^ length xs) (number-below xs h.1) below_y sum in
    let tails = same_from_number xs ys h.1 k.1 same parts.1 in cc (parts.0)
same_from_number xs ys h k l e = absurd (omega arith)

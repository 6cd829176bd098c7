-- The bits of bytes.
use Rattle.std.proofs.Common.{◌≡◌, ℕ, ◌+◌, ◌*◌, ◌^◌, ◌<◌, ◌≤◌, List, [], ◌∷◌, ◌++◌, length, take, drop, refl, sym}
use Rattle.std.proofs.Common.{ap, ◌∙◌, arith, append_assoc, append-nil, length-drop, suc, get_or}
use Rattle.std.proofs.lemmas.List.{take-append-drop, length-take-le, take_more}
use Rattle.std.proofs.Math.Seq.{take-append_seam, drop-append_seam}
use Rattle.std.proofs.Math.Nat.{pow-le-pow_right}
use Rattle.std.specs.List.{All}
use Rattle.bit_fields.specs.Bits.{byte_bits, bits, number}
use Rattle.bit_fields.proofs.Numbers.{AreBits, number-append, number-below}

pub length-bits : (bytes : List ℕ) → length (bits bytes) ≡ 8 * length bytes
unfolding bits byte_bits
length-bits [] = refl
length-bits (b ∷ bytes) = omega (arith, length-bits bytes)

pub bits-append : (xs ys : List ℕ) → bits (xs ++ ys) ≡ bits xs ++ bits ys
unfolding bits
bits-append [] ys = refl
bits-append (x ∷ xs) ys = rw (bits-append xs ys, append_assoc) refl

pub AreBits-bits : (bytes : List ℕ) → AreBits (bits bytes)
unfolding bits byte_bits
AreBits-bits [] = tt
AreBits-bits (b ∷ bytes) = grind (arith, AreBits-bits bytes)

number-byte : (b : ℕ) → b < 256 → number (byte_bits b) ≡ b
unfolding number byte_bits
number-byte b h = omega arith

pub number-bits-below : (bytes : List ℕ) → number (bits bytes) < 2 ^ (8 * length bytes)
number-bits-below bytes = rw (← length-bits bytes) (number-below (bits bytes) (AreBits-bits bytes))

-- one more byte
pub number-bits-push : (xs : List ℕ) (b : ℕ) → b < 256 → number (bits (xs ++ b ∷ [])) ≡ number (bits xs) * 256 + b
number-bits-push xs b h =
    let one : bits (b ∷ []) ≡ byte_bits b = unfold bits in append-nil (byte_bits b) in
    let size : length (byte_bits b) ≡ 8 = unfold byte_bits in refl in
    rw (bits-append, one, number-append, size, number-byte b h)

pub number_bits_more : (xs : List ℕ) (i : ℕ) → i < length xs → get_or xs i 0 < 256
    → number (bits (take (i + 1) xs)) ≡ number (bits (take i xs)) * 256 + get_or xs i 0
number_bits_more xs i h small = rw (take_more xs i 0 h) (number-bits-push (take i xs) (get_or xs i 0) small)

pub number-bits-few : (xs : List ℕ) (k : ℕ) → length xs ≤ k → number (bits xs) < 2 ^ (8 * k)
number-bits-few xs k h = grind (arith, pow-le-pow_right, number-bits-below)

bits-cut : (k : ℕ) (bytes : List ℕ) → k ≤ length bytes → (take (8 * k) (bits bytes) ≡ bits (take k bytes))
    × (drop (8 * k) (bits bytes) ≡ bits (drop k bytes))
bits-cut k bytes h =
    let front : length (bits (take k bytes)) ≡ 8 * k = rw (length-bits (take k bytes), length-take-le k bytes h) in
    let split : bits (take k bytes) ++ bits (drop k bytes) ≡ bits bytes = rw (← bits-append, take-append-drop) in
    let taken = bits (take k bytes) in
    let left = bits (drop k bytes) in
    rw (← front, ← split) (take-append_seam taken left, drop-append_seam taken left)

pub part-bits : (bytes : List ℕ) (first count : ℕ) → first + count ≤ length bytes →
    bits (take count (drop first bytes)) ≡ take (8 * count) (drop (8 * first) (bits bytes))
part-bits bytes first count h =
    let left = bits-cut first bytes (omega arith) in
    let part = bits-cut count (drop first bytes) (omega (arith, length-drop first bytes)) in rw (left.1, part.0)

-- bytes with the same bits are equal
pub same_from_bits : (xs ys : List ℕ) → All (λ byte. byte < 2 ^ 8) xs → All (λ byte. byte < 2 ^ 8) ys
    → bits xs ≡ bits ys → xs ≡ ys
unfolding bits byte_bits
same_from_bits [] [] h k e = refl
same_from_bits (x ∷ xs) (y ∷ ys) h k e =
    let first : byte_bits x ≡ byte_bits y = cc in
    let rest : bits xs ≡ bits ys = cc in
    let same : x ≡ y =
    sym (number-byte x (h 0 0 (omega arith))) ∙ (ap number first ∙ number-byte y (k 0 0 (omega arith))) in
    let tails =
    same_from_bits xs ys (λ i d l. h (suc i) d (omega arith)) (λ i d l. k (suc i) d (omega arith)) rest in
    cc (same, tails)
same_from_bits xs ys h k e = absurd cc

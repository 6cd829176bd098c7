-- The CRC of a message in two parts, of one more byte, and of one byte: the entries of the table.
use Rattle.std.proofs.Common.{◌≡◌, ℕ, zero, suc, ◌+◌, ◌*◌, ◌%◌, ◌<◌, Bool, true, false, cond, ltb, eqb, List, [], ◌∷◌}
use Rattle.std.proofs.Common.{◌++◌, length, get_or, bit_xor, refl, sym, ap, ◌∙◌, append_assoc, arith, length-append}
use Rattle.std.specs.Int.{bit_at}
use Rattle.std.specs.Int.Bits.{xor_assoc, xor_self, xor_zero_l, xor_zero_r}
use Rattle.std.proofs.lemmas.Nat.{xor_comm, xor_block, xor_of_8}
use Rattle.std.proofs.lemmas.Nat.Bits.{bit_at-lt, bit_at_xor}
use Rattle.std.proofs.lemmas.Bool.{agree_below, agree_below_at, eqb-true, ltb-true}
use Rattle.esp3_frames.specs.Check.{times_x, power_of_x, byte_bits, bits, remainder, check, crc_after_zeros}
use Rattle.esp3_frames.specs.declared.check.TheConstants.{CRC_TABLE}

-- ---- facts about each byte, by computing

pub equal_below : (f g : ℕ → ℕ) (n : ℕ) → agree_below (λ k. eqb (f k) (g k)) (λ _. true) n ≡ true → (k : ℕ) → k < n
    → f k ≡ g k
equal_below f g n equal k below = eqb-true _ _ (agree_below_at (λ k. eqb (f k) (g k)) (λ _. true) n k equal below)

times_x_byte : (n : ℕ) → n < 256 → times_x n < 256
times_x_byte n below = ltb-true _ _ (agree_below_at (λ k. ltb (times_x k) 256) (λ _. true) 256 n refl below)

-- the polynomial is subtracted if the highest bit is set
times_x-by_bit : (n : ℕ) → n < 256 → times_x n ≡ bit_xor (2 * n) (bit_at n 7 * 0x107)
times_x-by_bit = equal_below times_x (λ n. bit_xor (2 * n) (bit_at n 7 * 0x107)) 256 refl

-- ---- times_x of a sum is the sum of the two, where sums are by `bit_xor`

xor_swap : (a b c d : ℕ) → bit_xor (bit_xor a b) (bit_xor c d) ≡ bit_xor (bit_xor a c) (bit_xor b d)
xor_swap a b c d = grind (arith, xor_assoc, xor_comm)

double_xor : (a b : ℕ) → 2 * bit_xor a b ≡ bit_xor (2 * a) (2 * b)
double_xor a b = grind (arith, xor_block 1 a b 0 0)

bits_xor : (a b : ℕ) → a < 2 → b < 2 → (a + b) % 2 * 0x107 ≡ bit_xor (a * 0x107) (b * 0x107)
bits_xor zero zero ha hb = refl
bits_xor zero (suc zero) ha hb = refl
bits_xor (suc zero) zero ha hb = refl
bits_xor (suc zero) (suc zero) ha hb = refl
bits_xor a b ha hb = absurd (omega arith)

times_x-xor : (a b : ℕ) → a < 256 → b < 256 → times_x (bit_xor a b) ≡ bit_xor (times_x a) (times_x b)
times_x-xor a b ha hb =
    rw (
      times_x-by_bit (bit_xor a b) (xor_of_8 a b ha hb),
      times_x-by_bit a ha,
      times_x-by_bit b hb,
      double_xor a b,
      bit_at_xor a b 7,
      bits_xor (bit_at a 7) (bit_at b 7) (bit_at-lt a 7) (bit_at-lt b 7),
    ) (xor_swap (2 * a) (2 * b) (bit_at a 7 * 0x107) (bit_at b 7 * 0x107))

-- ---- times_x, n times: so many more zero bits at the end of a message

unfoldable shifted : (a n : ℕ) → ℕ
shifted a zero = a
shifted a (suc n) = shifted (times_x a) n

shifted-zero : (n : ℕ) → shifted 0 n ≡ 0
unfolding shifted
shifted-zero zero = refl
shifted-zero (suc n) = shifted-zero n

shifted_xor : (a b n : ℕ) → a < 256 → b < 256 → shifted (bit_xor a b) n ≡ bit_xor (shifted a n) (shifted b n)
unfolding shifted
shifted_xor a b zero ha hb = refl
shifted_xor a b (suc n) ha hb =
    ap (λ c. shifted c n) (times_x-xor a b ha hb)
    ∙ shifted_xor (times_x a) (times_x b) n (times_x_byte a ha) (times_x_byte b hb)

power_shifted : (k n : ℕ) → power_of_x (k + n) ≡ shifted (power_of_x k) n
unfolding power_of_x shifted
power_shifted k zero = let same : k + zero ≡ k = omega arith in ap power_of_x same
power_shifted k (suc n) = let more : k + suc n ≡ suc k + n = omega arith in ap power_of_x more ∙ power_shifted (suc k) n

-- ---- the remainder of bits in two parts

power_byte : (k : ℕ) → power_of_x k < 256
unfolding power_of_x
power_byte zero = omega arith
power_byte (suc k) = times_x_byte (power_of_x k) (power_byte k)

bit_byte : (b : Bool) (n : ℕ) → n < 256 → cond b n 0 < 256
bit_byte true n h = h
bit_byte false n h = omega arith

remainder_byte : (bs : List Bool) → remainder bs < 256
unfolding remainder
remainder_byte [] = omega arith
remainder_byte (b ∷ bs) =
    xor_of_8 _ _ (bit_byte b (power_of_x (length bs + 8)) (power_byte (length bs + 8))) (remainder_byte bs)

bit_shifted : (b : Bool) (k n : ℕ) → cond b (power_of_x (k + n)) 0 ≡ shifted (cond b (power_of_x k) 0) n
bit_shifted true k n = power_shifted k n
bit_shifted false k n = sym (shifted-zero n)

remainder-append : (xs ys : List Bool)
    → remainder (xs ++ ys) ≡ bit_xor (shifted (remainder xs) (length ys)) (remainder ys)
unfolding remainder
remainder-append [] ys = sym (ap (λ n. bit_xor n (remainder ys)) (shifted-zero (length ys)) ∙ xor_zero_l (remainder ys))
remainder-append (b ∷ xs) ys =
    let n = length ys in
    let first = cond b (power_of_x (length xs + 8)) 0 in
    let size : length (xs ++ ys) + 8 ≡ length xs + 8 + n = omega (arith, length-append xs ys) in
    let moved = ap (λ k. cond b (power_of_x k) 0) size ∙ bit_shifted b (length xs + 8) n in
    let sum = shifted_xor first (remainder xs) n
    (bit_byte b (power_of_x (length xs + 8)) (power_byte (length xs + 8))) (remainder_byte xs) in
    cc (moved, remainder-append xs ys, sum, xor_assoc (shifted first n) (shifted (remainder xs) n) (remainder ys))

-- ---- the CRC of a message in two parts

pub check_nil : check [] ≡ 0
unfolding check bits remainder
check_nil = refl

check_byte : (m : List ℕ) → check m < 256
unfolding check
check_byte m = remainder_byte (bits m)

-- the CRC of one byte, by its bits and by the table
check_one : (b : ℕ) → b < 256 → check (b ∷ []) ≡ shifted b 8
unfolding check bits remainder power_of_x byte_bits shifted
check_one = equal_below (λ b. check (b ∷ [])) (λ b. shifted b 8) 256 refl

pub table_at : (b : ℕ) → b < 256 → get_or CRC_TABLE b 0 ≡ check (b ∷ [])
unfolding shifted
table_at b below = equal_below (λ b. get_or CRC_TABLE b 0) (λ b. shifted b 8) 256 refl b below ∙ sym (check_one b below)

bits-append : (m w : List ℕ) → bits (m ++ w) ≡ bits m ++ bits w
unfolding bits
bits-append [] w = refl
bits-append (b ∷ m) w =
    ap (λ (ys : List Bool). byte_bits b ++ ys) (bits-append m w) ∙ sym (append_assoc (byte_bits b) (bits m) (bits w))

shifted_bits : (c : ℕ) (w : List ℕ) → c < 256 → shifted c (length (bits w)) ≡ crc_after_zeros c (length w)
unfolding bits byte_bits crc_after_zeros shifted
shifted_bits c [] h = refl
shifted_bits c (b ∷ w) h =
    ap (λ n. shifted n (length (bits w))) (sym (check_one c h)) ∙ shifted_bits (check (c ∷ [])) w (check_byte (c ∷ []))

pub check_parts : (m w : List ℕ) → check (m ++ w) ≡ bit_xor (crc_after_zeros (check m) (length w)) (check w)
unfolding check
check_parts m w = grind (arith, bits-append, remainder-append, shifted_bits, check_byte)

-- the CRC of the second part, from that of the first part and that of both
pub check_second : (m w : List ℕ) → bit_xor (check (m ++ w)) (crc_after_zeros (check m) (length w)) ≡ check w
check_second m w = grind (arith, check_parts m w, xor_assoc, xor_comm, xor_self, xor_zero_l, xor_zero_r)

-- one more byte: the CRC of the single byte that is the sum of this byte and the CRC so far
pub crc_of_appended_byte : (m : List ℕ) (b : ℕ) → b < 256 → check (m ++ b ∷ []) ≡ check (bit_xor (check m) b ∷ [])
unfolding crc_after_zeros
crc_of_appended_byte m b h = grind (arith, check_byte, check_parts, check_one, xor_of_8, shifted_xor)

-- The CRC after more zero bytes.
use Rattle.std.proofs.Common.{◌≡◌, ℕ, zero, suc, ◌+◌, ◌*◌, ◌/◌, ◌%◌, ◌<◌, ◌≤◌, true, cond, ltb, List, [], ◌∷◌, ◌++◌}
use Rattle.std.proofs.Common.{length, replicate, get_or, bit_xor, refl, sym, ap, ◌∙◌, arith}
use Rattle.std.specs.Int.Bits.{xor_zero_r}
use Rattle.std.proofs.Math.ListN.{length-replicate}
use Rattle.std.proofs.lemmas.Bool.{agree_below_at, ltb-true}
use Rattle.std.proofs.lemmas.Bool.Decides.{nat_tests}
use Rattle.esp3_frames.specs.Check.{byte_bits, bits, remainder, check, crc_after_zeros, power_of_x}
use Rattle.esp3_frames.specs.declared.check.TheConstants.{CRC_TABLE, POWERS_OF_X, EXPONENTS_OF_X}
use Rattle.esp3_frames.proofs.CheckLemmas.{equal_below, check_parts, table_at}

zeros_after_zero : (n : ℕ) → crc_after_zeros 0 n ≡ 0
unfolding crc_after_zeros check bits remainder power_of_x byte_bits
zeros_after_zero zero = refl
zeros_after_zero (suc n) = zeros_after_zero n

check_of_zeros : (n : ℕ) → check (replicate n 0) ≡ 0
unfolding check bits remainder power_of_x byte_bits
check_of_zeros zero = refl
check_of_zeros (suc n) =
    check_parts (0 ∷ []) (replicate n 0) ∙ ap (bit_xor (crc_after_zeros 0 (length (replicate n 0)))) (check_of_zeros n)
    ∙ xor_zero_r _ ∙ zeros_after_zero (length (replicate n 0))

pub check-append_zeros : (m : List ℕ) (n : ℕ) → check (m ++ replicate n 0) ≡ crc_after_zeros (check m) n
check-append_zeros m n = grind (arith, check_parts, check_of_zeros, xor_zero_r, length-replicate)

-- the tables: each byte is at its index, and n zero bytes advance the index in two cycles of 127; from 254 on it stays
abbrev pub power : ℕ → ℕ
power i = get_or POWERS_OF_X i 0

abbrev pub exponent : ℕ → ℕ
exponent c = get_or EXPONENTS_OF_X c 0

unfoldable pub advanced : (i n : ℕ) → ℕ
advanced i n = cond (ltb i 254) (i / 127 * 127 + (i % 127 + n) % 127) i

advanced-below : (i n : ℕ) → i < 256 → advanced i n < 256
unfolding advanced
advanced-below i n below = grind (arith, nat_tests)

advanced-add : (i n : ℕ) → advanced (advanced i 1) n ≡ advanced i (suc n)
unfolding advanced
advanced-add i n = grind (arith, nat_tests)

advanced-zero : (i : ℕ) → advanced i 0 ≡ i
unfolding advanced
advanced-zero i = grind (arith, nat_tests)

advanced-period : (i n : ℕ) → advanced i (n + 127) ≡ advanced i n
unfolding advanced
advanced-period i n = grind (arith, nat_tests)

power_byte : (i : ℕ) → i < 256 → power i < 256
power_byte i below = ltb-true _ _ (agree_below_at (λ k. ltb (power k) 256) (λ _. true) 256 i refl below)

exponent_byte : (c : ℕ) → c < 256 → exponent c < 256
exponent_byte c below = ltb-true _ _ (agree_below_at (λ k. ltb (exponent k) 256) (λ _. true) 256 c refl below)

power-exponent : (c : ℕ) → c < 256 → power (exponent c) ≡ c
power-exponent = equal_below (λ c. power (exponent c)) (λ c. c) 256 refl

power-next : (i : ℕ) → i < 256 → get_or CRC_TABLE (power i) 0 ≡ power (advanced i 1)
unfolding advanced
power-next = equal_below (λ i. get_or CRC_TABLE (power i) 0) (λ i. power (advanced i 1)) 256 refl

power-advanced : (i n : ℕ) → i < 256 → crc_after_zeros (power i) n ≡ power (advanced i n)
unfolding crc_after_zeros
power-advanced i zero below = ap power (sym (advanced-zero i))
power-advanced i (suc n) below =
    ap (λ c. crc_after_zeros c n) (sym (table_at (power i) (power_byte i below)) ∙ power-next i below)
    ∙ power-advanced (advanced i 1) n (advanced-below i 1 below) ∙ ap power (advanced-add i n)

pub zeros_by_table : (c n : ℕ) → c < 256 → crc_after_zeros c n ≡ power (advanced (exponent c) n)
zeros_by_table c n h =
    ap (λ b. crc_after_zeros b n) (sym (power-exponent c h)) ∙ power-advanced (exponent c) n (exponent_byte c h)

pub zeros-still : (c n : ℕ) → c < 256 → 254 ≤ exponent c → crc_after_zeros c n ≡ c
unfolding advanced
zeros-still c n h still =
    let stays : advanced (exponent c) n ≡ exponent c = grind (arith, nat_tests) in
    zeros_by_table c n h ∙ ap power stays ∙ power-exponent c h

pub zeros_period : (c n : ℕ) → c < 256 → crc_after_zeros c (n + 127) ≡ crc_after_zeros c n
zeros_period c n h = grind (arith, zeros_by_table, advanced-period)

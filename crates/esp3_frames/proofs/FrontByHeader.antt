-- The front of a text, by its header.
use Rattle.std.proofs.Common.{◌≡◌, ◌≢◌, ℕ, ◌+◌, ◌<◌, ◌≤◌, cond, List, [], ◌∷◌, length, take, drop, get_or, refl, arith}
use Rattle.std.specs.Prelude.{Ok, Err}
use Rattle.std.proofs.lemmas.Bool.Decides.{nat_tests}
use Rattle.esp3_frames.specs.Check.{check}
use Rattle.esp3_frames.specs.Packet.{Packet}
use Rattle.esp3_frames.specs.PacketsAndRest.{may_begin, front_after_header, front_of}
use Rattle.esp3_frames.specs.PacketsAndRest.Front.{Never, Partial, Whole}
use Rattle.esp3_frames.specs.Outcome.{decoded_header, header_of}
use Rattle.esp3_frames.specs.declared.packet.Header.{Header}
use Rattle.esp3_frames.specs.declared.packet.HeaderFault.{HeaderFault}

-- a text of less than six bytes
pub front-short : (b : List ℕ) → length b < 6 → front_of b ≡ cond (may_begin b) Partial Never
unfolding front_of
front-short [] h = refl
front-short (s ∷ []) h = refl
front-short (s ∷ g ∷ []) h = refl
front-short (s ∷ g ∷ l ∷ []) h = refl
front-short (s ∷ g ∷ l ∷ o ∷ []) h = refl
front-short (s ∷ g ∷ l ∷ o ∷ k ∷ []) h = refl
front-short (s ∷ g ∷ l ∷ o ∷ k ∷ c ∷ w) h = absurd (omega arith)

pub short-no_whole : (b : List ℕ) → length b < 6 → (p : Packet) → front_of b ≢ Whole p
short-no_whole b h p = grind (arith, front-short b h)

-- a text that begins with these six bytes, by their header
module _ (s h l o k c : ℕ) (w : List ℕ) where
  good_bytes : (x : Header) → header_of (s ∷ h ∷ l ∷ o ∷ k ∷ c ∷ []) ≡ Ok x
      → front_of (s ∷ h ∷ l ∷ o ∷ k ∷ c ∷ w) ≡ front_after_header x.data_len x.opt_len x.kind w
  unfolding front_of
  good_bytes x good = grind (arith, nat_tests)

  bad_bytes : (e : HeaderFault) → header_of (s ∷ h ∷ l ∷ o ∷ k ∷ c ∷ []) ≡ Err e
      → front_of (s ∷ h ∷ l ∷ o ∷ k ∷ c ∷ w) ≡ Never
  unfolding front_of
  bad_bytes e bad = grind (arith, nat_tests)

  announced_bytes : (p : Packet) → let x = decoded_header (s ∷ h ∷ l ∷ o ∷ k ∷ c ∷ []) in
      length w ≤ x.data_len + x.opt_len → front_of (s ∷ h ∷ l ∷ o ∷ k ∷ c ∷ w) ≢ Whole p
  unfolding front_of
  announced_bytes p short = grind (arith, nat_tests)

-- a text of at least six bytes with a valid header
pub front-good : (b : List ℕ) (x : Header) → 6 ≤ length b → header_of (take 6 b) ≡ Ok x
    → front_of b ≡ front_after_header x.data_len x.opt_len x.kind (drop 6 b)
front-good (s ∷ h ∷ l ∷ o ∷ k ∷ c ∷ w) x long good = good_bytes s h l o k c w x good
front-good b x long good = absurd (omega arith)

-- a text of at least six bytes with an invalid header
pub front-bad : (b : List ℕ) (e : HeaderFault) → 6 ≤ length b → header_of (take 6 b) ≡ Err e → front_of b ≡ Never
front-bad (s ∷ h ∷ l ∷ o ∷ k ∷ c ∷ w) e long bad = bad_bytes s h l o k c w e bad
front-bad b e long bad = absurd (omega arith)

-- a text that is shorter than its first six bytes announce is not a whole packet
pub announced-no_whole : (b : List ℕ) → 6 ≤ length b → let x = decoded_header (take 6 b) in
    length (drop 6 b) ≤ x.data_len + x.opt_len → (p : Packet) → front_of b ≢ Whole p
announced-no_whole (s ∷ h ∷ l ∷ o ∷ k ∷ c ∷ w) long short p = announced_bytes s h l o k c w p short
announced-no_whole b long short p = absurd (omega arith)

-- the text after a valid header
pub front_after_header-partial : (d o k : ℕ) (w : List ℕ) → length w ≤ d + o → front_after_header d o k w ≡ Partial
front_after_header-partial d o k w short = grind (arith, nat_tests)

pub front_after_header-whole : (d o k : ℕ) (w : List ℕ) → d + o < length w → get_or w (d + o) 0 ≡ check (take (d + o) w)
    → front_after_header d o k w ≡ Whole (record
    { kind = k; body = take d (take (d + o) w); opt = drop d (take (d + o) w) })
front_after_header-whole d o k w long right = grind (arith, nat_tests)

pub front_after_header-never : (d o k : ℕ) (w : List ℕ) → d + o < length w → get_or w (d + o) 0 ≢ check (take (d + o) w)
    → front_after_header d o k w ≡ Never
front_after_header-never d o k w long wrong = grind (arith, nat_tests)

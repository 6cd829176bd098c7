-- The packets and the rest of a text, by its front.
use Rattle.std.proofs.Common.{◌≡◌, ◌≢◌, ℕ, zero, suc, ◌+◌, ◌<◌, ◌≤◌, get_or, List, [], ◌∷◌, length, drop, refl, sym, ap}
use Rattle.std.proofs.Common.{◌∙◌, arith}
use Rattle.std.proofs.lemmas.Bool.Decides.{nat_tests}
use Rattle.esp3_frames.specs.Packet.{Packet}
use Rattle.esp3_frames.specs.PacketsAndRest.{Front, front_of, PacketsAndRest, packets_and_rest_after_skipping}
use Rattle.esp3_frames.specs.PacketsAndRest.{packets_and_rest, packets_in, rest_of}
use Rattle.esp3_frames.specs.PacketsAndRest.Front.{Never, Partial, Whole}

packets_and_rest-drop : (n : ℕ) (s : List ℕ) → packets_and_rest_after_skipping n s ≡ packets_and_rest (drop n s)
unfolding packets_and_rest_after_skipping
packets_and_rest-drop zero s = refl
packets_and_rest-drop (suc n) [] = refl
packets_and_rest-drop (suc n) (b ∷ s) = packets_and_rest-drop n s

-- the packets and the rest of b ∷ s, if this is its front
abbrev pub with_front : ℕ → List ℕ → Front → PacketsAndRest
with_front b s f =
    elim f [
      | Never ↦ packets_and_rest_after_skipping zero s
      | Partial ↦ record { ready = []; rest = b ∷ s }
      | Whole p ↦
          let c = packets_and_rest_after_skipping (length p.body + length p.opt + 6) s in
          record { ready = p ∷ c.ready; rest = c.rest }
    ]

pub frames-never : (s : List ℕ) → front_of s ≡ Never → (0 < length s)
    × (packets_and_rest (drop 1 s) ≡ packets_and_rest s)
unfolding packets_and_rest_after_skipping front_of
frames-never [] e = absurd cc
frames-never (b ∷ s) e = (omega arith, ap (with_front b s) (sym e))

pub frames-partial : (s : List ℕ) → front_of s ≡ Partial → packets_and_rest s ≡ record { ready = []; rest = s }
unfolding packets_and_rest_after_skipping
frames-partial [] e = refl
frames-partial (b ∷ s) e = ap (with_front b s) e

pub frames-whole : (s : List ℕ) (p : Packet) → front_of s ≡ Whole p
    → packets_and_rest s ≡ record {
      ready = p ∷ packets_in (drop (length p.body + length p.opt + 7) s);
      rest = rest_of (drop (length p.body + length p.opt + 7) s);
    }
unfolding packets_and_rest_after_skipping front_of
frames-whole [] p e = absurd cc
frames-whole (b ∷ s) p e =
    let n : ℕ = length p.body + length p.opt + 6 in
    let size : length p.body + length p.opt + 7 ≡ suc n = omega arith in
    rw size (rw (packets_and_rest-drop n s) at (ap (with_front b s) e))

-- a byte other than the sync byte begins no packet
front-no_sync : (b : ℕ) (s : List ℕ) → b ≢ 0x55 → front_of (b ∷ s) ≡ Never
unfolding front_of
front-no_sync b s other = grind (arith, nat_tests)

pub frames-skipped : (w : List ℕ) (n : ℕ) → n ≤ length w → ((i : ℕ) → i < n → get_or w i 0 ≢ 0x55)
    → packets_and_rest (drop n w) ≡ packets_and_rest w
frames-skipped w zero h none = refl
frames-skipped [] (suc n) h none = absurd (omega arith)
frames-skipped (b ∷ w) (suc n) h none =
    frames-skipped w n (omega arith) (λ i below. none (suc i) (omega arith))
    ∙ (frames-never (b ∷ w) (front-no_sync b w (none zero (omega arith)))).1

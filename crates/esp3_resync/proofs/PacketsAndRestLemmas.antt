-- The packets and the rest of a framer's bytes, by their front.
use Rattle.std.proofs.Common.{◌≡◌, ◌≢◌, ℕ, ◌+◌, ◌-◌, ◌≤◌, ◌<◌, List, [], ◌++◌, length, take, drop, get_or, refl, sym}
use Rattle.std.proofs.Common.{subst, ap, ◌∙◌, arith, append_assoc, length-append, length-drop, length-take}
use Rattle.std.proofs.Math.Seq.{take-add, drop-length}
use Rattle.std.proofs.lemmas.Bool.{cases_lt}
use Rattle.std.proofs.lemmas.List.{nil_from_length, take_all, get_or-take, take-append-drop, take-take}
use Rattle.esp3_frames.specs.Packet.{Packet}
use Rattle.esp3_frames.specs.Framing.{MayBecomePacket}
use Rattle.esp3_frames.specs.PacketsAndRest.{front_of, PacketsAndRest, packets_and_rest_after_skipping}
use Rattle.esp3_frames.specs.PacketsAndRest.{packets_and_rest}
use Rattle.esp3_frames.specs.PacketsAndRest.Front.{Never, Partial, Whole}
use Rattle.esp3_frames.proofs.ForCallers.{frames-never, frames-skipped, frames-partial, frames-whole, framing_of}
use Rattle.esp3_frames.proofs.ForCallers.{rest_may_become, framing_length, packets_and_rest-append}
use Rattle.esp3_frames.proofs.ForCallers.{packets_and_rest-may_become, whole-at_front}
use Rattle.esp3_resync.specs.private.WindowFronts.{ReachesSync}

-- no packet is ready after these bytes
abbrev pub IsUnready : List ℕ → Type 0
IsUnready s = length (packets_and_rest s).ready ≡ 0

pub whole_ready : (s : List ℕ) (p : Packet) → front_of s ≡ Whole p → 0 < length (packets_and_rest s).ready
whole_ready s p whole = omega (arith, ap (λ (f : PacketsAndRest). length f.ready) (frames-whole s p whole))

pub partial_unready : (s : List ℕ) → front_of s ≡ Partial → IsUnready s
partial_unready s partial = ap (λ (f : PacketsAndRest). length f.ready) (frames-partial s partial)

-- six bytes contain no packet
pub few_unready : (s : List ℕ) → length s ≤ 6 → IsUnready s
few_unready s few = omega (arith, framing_length (framing_of s))

pub packets_and_rest-empty : packets_and_rest [] ≡ record { ready = []; rest = [] }
unfolding packets_and_rest_after_skipping
packets_and_rest-empty = refl

pub rest_of_framer : (w : List ℕ) (f : PacketsAndRest) → packets_and_rest w ≡ f → MayBecomePacket f.rest
rest_of_framer w f is = subst (λ (g : PacketsAndRest). MayBecomePacket g.rest) is (rest_may_become (framing_of w))

-- a text that begins with no packet, from its next sync byte on
pub frames_at_sync : (w v : List ℕ) → front_of w ≡ Never → ReachesSync (drop 1 w) v
    → (packets_and_rest v ≡ packets_and_rest w) × (length v < length w)
frames_at_sync w v never to =
    let none = frames-never w never in (
      ap packets_and_rest to.is ∙ frames-skipped (drop 1 w) to.count to.within to.none ∙ none.1,
      omega (arith, none.0, ap length to.is, length-drop to.count (drop 1 w), length-drop 1 w),
    )

-- bytes before the first sync byte contain no packet, and leave no rest
pub packets_and_rest-noise : (b : List ℕ) (n : ℕ) → ((i : ℕ) → i < n → get_or b i 0 ≢ 0x55)
    → packets_and_rest (take n b) ≡ record { ready = []; rest = [] }
packets_and_rest-noise b n none =
    let noise = take n b in
    sym (frames-skipped noise (length noise) (omega arith) (λ i below. grind
    (arith, length-take n b, get_or-take, none)))
    ∙ ap packets_and_rest (drop-length noise) ∙ packets_and_rest-empty

-- if no packet is ready, the framing continues from the rest
rest_continued : (s t : List ℕ) → IsUnready s
    → packets_and_rest ((packets_and_rest s).rest ++ t) ≡ packets_and_rest (s ++ t)
rest_continued s t none = grind (arith, packets_and_rest-append s t, nil_from_length)

-- if a prefix of some bytes makes no packet ready, no shorter one does
pub shorter_unready : (s t : List ℕ) → IsUnready (s ++ t) → IsUnready s
shorter_unready s t none = grind (arith, packets_and_rest-append s t, length-append)

pub unready_before : (r b : List ℕ) (i k : ℕ) → IsUnready (r ++ take i b) → k ≤ i → IsUnready (r ++ take k b)
unready_before r b i k none within =
    shorter_unready (r ++ take k b) (take (i - k) (drop k b)) (grind (arith, none, append_assoc, take-add k (i - k) b))

-- the packets and the rest of a prefix of some bytes, and of a longer prefix
module _ (r b : List ℕ) (i : ℕ) (f : PacketsAndRest) (is : f ≡ packets_and_rest (r ++ take i b))
    (none : length f.ready ≡ 0) where
  pub prefix_continued : (n : ℕ)
      → packets_and_rest (f.rest ++ take n (take (length b - i) (drop i b))) ≡ packets_and_rest (r ++ take (i + n) b)
  prefix_continued n = grind (arith, rest_continued, take_all, length-drop, append_assoc, take-add)

  pub longer_unready : (n k : ℕ)
      → ((j : ℕ) → j < n → IsUnready (f.rest ++ take j (take (length b - i) (drop i b))))
      → k < i + n → IsUnready (r ++ take k b)
  longer_unready n k before below = grind (arith, cases_lt, unready_before, prefix_continued)

-- a proper prefix of the packet at the front makes no packet ready
pub part_unready : (b : List ℕ) (p : Packet) (k : ℕ) → front_of b ≡ Whole p → k < length p.body + length p.opt + 7
    → IsUnready (take k b)
part_unready b p k whole below =
    let n : ℕ = length p.body + length p.opt + 7 in
    let is = whole-at_front b p whole in
    let part : MayBecomePacket (take k (take n b)) = record {
      packet = p;
      more = drop k (take n b);
      proper = omega (arith, length-drop k (take n b), length-take n b, is.0);
      whole = rw take-append-drop is.2;
    } in
    let none = packets_and_rest-may_become (take k (take n b)) part in
    ap (λ (s : List ℕ). length (packets_and_rest s).ready) (sym (take-take k n b (omega arith)))
    ∙ ap (λ (ps : List Packet). length ps) (sym none.0)

-- Each stream has exactly one framing, the computed one.
use Rattle.std.proofs.Common.{◌≡◌, ℕ, zero, suc, ◌+◌, ◌≤◌, List, [], ◌∷◌, ◌++◌, length, take, drop, refl, sym, ap, ◌∙◌}
use Rattle.std.proofs.Common.{append_assoc, arith, length-append, ◌*◌}
use Rattle.std.proofs.Math.Seq.{drop-append_seam}
use Rattle.std.proofs.lemmas.List.{append-nil, take-append-drop}
use Rattle.esp3_frames.specs.Packet.{Packet, IsPacket}
use Rattle.esp3_frames.specs.Framing.{MayBecomePacket, Framing}
use Rattle.esp3_frames.specs.Framing.Framing.{ends, skips, finds}
use Rattle.esp3_frames.specs.PacketsAndRest.{Front, front_of, packets_and_rest_after_skipping, packets_and_rest}
use Rattle.esp3_frames.specs.PacketsAndRest.{PacketsAndRest, packets_in, rest_of}
use Rattle.esp3_frames.specs.PacketsAndRest.Front.{Never, Partial, Whole}
use Rattle.esp3_frames.proofs.FrontLemmas.{front-packet, packet_length, whole-at_front, front_partial, front-may_become}
use Rattle.esp3_frames.proofs.FrontLemmas.{front_never, front-never_packet, never-longer, empty_may_become}
use Rattle.esp3_frames.proofs.PacketsAndRestByFront.{with_front, frames-never, frames-partial, frames-whole}

abbrev HasFraming : List ℕ → PacketsAndRest → Type 0
HasFraming s f = Framing s f.ready f.rest

-- a framing of b ∷ s, by its front
at_front : (b : ℕ) (s : List ℕ) (f : Front) → front_of (b ∷ s) ≡ f
    → ((n : ℕ) → n ≤ length s → HasFraming (drop n s) (packets_and_rest_after_skipping n s))
    → HasFraming (b ∷ s) (with_front b s f)
at_front b s Never is more = skips (front_never (b ∷ s) is) (more zero (omega arith))
at_front b s Partial is more = ends (front_partial (b ∷ s) is)
at_front b s (Whole p) is more =
    let n : ℕ = length p.body + length p.opt + 6 in
    let size : length p.body + length p.opt + 7 ≡ suc n = omega arith in
    let whole = whole-at_front (b ∷ s) p is in
    finds {front = take (suc n) (b ∷ s)} (rw size at whole.2) (sym (take-append-drop (suc n) (b ∷ s)))
    (more n (omega (arith, whole.0)))

framing_after : (n : ℕ) (s : List ℕ) → n ≤ length s → HasFraming (drop n s) (packets_and_rest_after_skipping n s)
unfolding packets_and_rest_after_skipping
framing_after zero [] within = ends empty_may_become
framing_after (suc n) [] within = absurd (omega arith)
framing_after (suc n) (b ∷ s) within = framing_after n s (omega arith)
framing_after zero (b ∷ s) within = at_front b s (front_of (b ∷ s)) refl (λ n. framing_after n s)

pub framing_of : (s : List ℕ) → Framing s (packets_in s) (rest_of s)
framing_of s = framing_after zero s (omega arith)

-- a framing has the computed packets and rest
pub framed : {s : List ℕ} {ps : List Packet} {r : List ℕ} → Framing s ps r
    → packets_and_rest s ≡ record { ready = ps; rest = r }
framed (ends {s = s} may) = frames-partial s (front-may_become s may)
framed (skips {b = b} {s = s} never c) = sym (frames-never (b ∷ s) (front-never_packet (b ∷ s) never)).1 ∙ framed c
framed (finds {w = w} {p = p} {front = v} {s = s} is e c) =
    let n : length p.body + length p.opt + 7 ≡ length v = omega (arith, packet_length p v is) in
    let left : drop (length p.body + length p.opt + 7) w ≡ s =
    ap (λ i. drop i w) n ∙ ap (drop (length v)) e ∙ drop-append_seam v s in
    frames-whole w p (front-packet w s is e)
    ∙ ap (λ (f : PacketsAndRest). record { ready = p ∷ f.ready; rest = f.rest }) (ap packets_and_rest left ∙ framed c)

pub only_framing : (s : List ℕ) (ps : List Packet) (r : List ℕ) → Framing s ps r → (ps ≡ packets_in s) × (r ≡ rest_of s)
only_framing s ps r c = grind (arith, framed)

-- the rest of a framing may become a packet
pub rest_may_become : {s : List ℕ} {ps : List Packet} {r : List ℕ} → Framing s ps r → MayBecomePacket r
rest_may_become (ends l) = l
rest_may_become (skips d c) = rest_may_become c
rest_may_become (finds hp e c) = rest_may_become c

-- a text that may become a packet contains none, and is its own rest
pub packets_and_rest-may_become : (w : List ℕ) → MayBecomePacket w → ([] ≡ packets_in w) × (w ≡ rest_of w)
packets_and_rest-may_become w may = only_framing w [] w (ends may)

-- a framing continues from its rest
framing-append : {s : List ℕ} {ps : List Packet} {r : List ℕ} (t : List ℕ) {qs : List Packet} {u : List ℕ}
    → Framing s ps r → Framing (r ++ t) qs u → Framing (s ++ t) (ps ++ qs) u
framing-append t (ends may) c = c
framing-append t (skips {b = b} {s = s} never c) more = skips (never-longer (b ∷ s) t never) (framing-append t c more)
framing-append t (finds {front = v} {s = s} is e c) more =
    finds is (ap (λ (y : List ℕ). y ++ t) e ∙ append_assoc v s t) (framing-append t c more)

pub packets_and_rest-append : (s t : List ℕ) → packets_and_rest (s ++ t)
    ≡ record { ready = packets_in s ++ packets_in (rest_of s ++ t); rest = rest_of (rest_of s ++ t) }
packets_and_rest-append s t = framed (framing-append t (framing_of s) (framing_of (rest_of s ++ t)))

pub framing_in_parts : (s t : List ℕ) → (packets_in (s ++ t) ≡ packets_in s ++ packets_in (rest_of s ++ t))
    × (rest_of (s ++ t) ≡ rest_of (rest_of s ++ t))
framing_in_parts s t = grind (arith, packets_and_rest-append)

-- a text that is one packet
pub packets_and_rest-one : (p : Packet) (w : List ℕ) → IsPacket p w
    → packets_and_rest w ≡ record { ready = p ∷ []; rest = [] }
packets_and_rest-one p w is = framed (finds is (sym (append-nil w)) (ends empty_may_become))

-- the packets of a text fit into it
pub framing_length : {s : List ℕ} {ps : List Packet} {r : List ℕ} → Framing s ps r → 7 * length ps ≤ length s
framing_length (ends may) = omega arith
framing_length (skips never c) = omega (arith, framing_length c)
framing_length (finds {p = p} {front = v} {s = s} is e c) =
    omega (arith, framing_length c, packet_length p v is, ap length e, length-append v s)

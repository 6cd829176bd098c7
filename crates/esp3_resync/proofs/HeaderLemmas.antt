-- A header at the front of some bytes, and what it implies about them.
use Rattle.std.proofs.Common.{◌≡◌, ℕ, ◌+◌, ◌<◌, ◌≤◌, List, [], ◌∷◌, ◌++◌, length, take, refl, subst}
use Rattle.std.proofs.Common.{drop, get_or, sym, ap, ◌∙◌, arith, length-append, length-take, length-drop}
use Rattle.std.proofs.lemmas.List.{drop-drop, get_or-drop, take-append-le}
use Rattle.esp3_frames.specs.Check.{check}
use Rattle.esp3_frames.specs.Packet.{max_packet}
use Rattle.esp3_frames.specs.PacketsAndRest.{front_of, packets_and_rest, PacketsAndRest, packets_in, rest_of}
use Rattle.esp3_frames.specs.PacketsAndRest.Front.{Never, Partial, Whole}
use Rattle.esp3_frames.specs.Outcome.{header_of}
use Rattle.esp3_frames.specs.declared.packet.Header.{Header}
use Rattle.esp3_frames.proofs.ForCallers.{front-empty, front-good, front_after_header-partial, front_after_header-whole}
use Rattle.esp3_frames.proofs.ForCallers.{front_after_header-never, whole-at_front, frames-partial, frames-whole}
use Rattle.esp3_resync.proofs.PacketsAndRestLemmas.{whole_ready, packets_and_rest-empty}
use Rattle.esp3_resync.specs.private.WindowFronts.{HasHeader, IsWindowFront, packet_at}
use Rattle.esp3_resync.specs.declared.front.WindowFront.{WindowFront}
use Rattle.esp3_resync.specs.declared.front.WindowFront.TheVariants as found

-- a header stays the same when more bytes come
pub header-longer : (w t : List ℕ) (h : Header) → HasHeader w h → HasHeader (w ++ t) h
header-longer w t h has = (omega (arith, has.0, length-append w t), ap header_of (take-append-le 6 w t has.0) ∙ has.1)

-- the length that a header announces, and whether the CRC after it is correct
abbrev announced : Header → ℕ
announced h = h.data_len + h.opt_len

abbrev IsRight : Header → List ℕ → Type 0
IsRight h w = get_or w (announced h + 6) 0 ≡ check (take (announced h) (drop 6 w))

module _ (w : List ℕ) (h : Header) (has : HasHeader w h) where
  pub front-partial : length w < announced h + 7 → front_of w ≡ Partial
  front-partial short = grind (arith, front-good w h has.0 has.1, front_after_header-partial, length-drop 6 w)

  pub front-right : announced h + 7 ≤ length w → IsRight h w → front_of w ≡ Whole (packet_at h w)
  front-right long right = grind (arith, front-good, front_after_header-whole, length-drop, get_or-drop)

  pub front-wrong : announced h + 7 ≤ length w → (IsRight h w → ⊥) → front_of w ≡ Never
  front-wrong long wrong = grind (arith, front-good, front_after_header-never, length-drop, get_or-drop)

-- ---- the front of a window

-- no byte is held
pub is_empty : (x : WindowFront) (w : List ℕ) → x ≡ found.Empty → IsWindowFront x w → w ≡ []
is_empty x w e is = subst (λ y. IsWindowFront y w) e is

pub empty_framer : (x : WindowFront) (w : List ℕ) (f : PacketsAndRest) → x ≡ found.Empty → IsWindowFront x w
    → packets_and_rest w ≡ f → f ≡ record { ready = []; rest = [] }
empty_framer x w f e is view = sym view ∙ ap packets_and_rest (is_empty x w e is) ∙ packets_and_rest-empty

-- a byte is held
pub not_empty : (x : WindowFront) (w : List ℕ) → IsWindowFront x w → (x ≡ found.Empty → ⊥) → 0 < length w
not_empty found.Empty w is n = absurd (n refl)
not_empty found.PartialHeader w is n = is.1
not_empty (found.PartialPacket h) w is n = omega (arith, is.0.0)
not_empty (found.WholePacket h) w is n = omega (arith, (whole-at_front w (packet_at h w) is).0)

-- a part of the packet with this header is held
pub is_part : (x : WindowFront) (w : List ℕ) (h : Header) → x ≡ found.PartialPacket h → IsWindowFront x w
    → HasHeader w h × (length w < announced h + 7)
is_part x w h e is = subst (λ y. IsWindowFront y w) e is

-- a whole packet is held, or a part of one
pub is_whole : (x : WindowFront) (w : List ℕ) (h : Header) → x ≡ found.WholePacket h → IsWindowFront x w
    → front_of w ≡ Whole (packet_at h w)
is_whole x w h e is = subst (λ y. IsWindowFront y w) e is

pub not_whole : (x : WindowFront) (w : List ℕ) → IsWindowFront x w → ((h : Header) → x ≡ found.WholePacket h → ⊥)
    → front_of w ≡ Partial
not_whole found.Empty w is n = ap front_of is ∙ front-empty
not_whole found.PartialHeader w is n = is.0
not_whole (found.PartialPacket h) w is n = front-partial w h is.0 is.1
not_whole (found.WholePacket h) w is n = absurd (n h refl)

-- if no packet is ready, a framer's bytes are its rest, and a part of a packet
pub held_bytes : (x : WindowFront) (w : List ℕ) (f : PacketsAndRest) → IsWindowFront x w → packets_and_rest w ≡ f
    → length f.ready ≡ 0 → (front_of w ≡ Partial) × (w ≡ f.rest)
held_bytes x w f is e none = grind (arith, not_whole, whole_ready, is_whole, frames-partial)

-- a part of a packet whose header is not complete has less than six bytes
pub no_header : (x : WindowFront) (w : List ℕ) → IsWindowFront x w → front_of w ≡ Partial
    → ((h : Header) → x ≡ found.PartialPacket h → ⊥) → length w < 6
no_header found.Empty w is partial n = omega (arith, ap length is)
no_header found.PartialHeader w is partial n = is.2
no_header (found.PartialPacket h) w is partial n = absurd (n h refl)
no_header (found.WholePacket h) w is partial n = let both = sym partial ∙ is in absurd cc

-- a whole packet at the front, by its header
module _ (w : List ℕ) (h : Header) (is : front_of w ≡ Whole (packet_at h w)) where
  whole_sum : length (packet_at h w).body + length (packet_at h w).opt ≡ announced h
  whole_sum = grind (arith, whole-at_front w (packet_at h w) is, length-take, length-drop)

  pub whole_parts : (announced h + 7 ≤ length w) × (announced h + 7 ≤ max_packet)
  whole_parts =
      let sizes = whole-at_front w (packet_at h w) is in
      (omega (arith, sizes.0, whole_sum), omega (arith, sizes.1, whole_sum))

  -- without its header, its data and its last CRC
  pub whole_taken : (k : ℕ) → k ≡ announced h → let after = drop 1 (drop k (drop 6 w)) in
      packets_and_rest w ≡ record { ready = packet_at h w ∷ packets_in after; rest = rest_of after }
  whole_taken k count =
      let packet = packet_at h w in
      let all : 6 + (k + 1) ≡ length packet.body + length packet.opt + 7 = omega (arith, whole_sum, count) in
      let after = drop-drop 1 k (drop 6 w) ∙ drop-drop (k + 1) 6 w ∙ ap (λ i. drop i w) all in
      rw after (frames-whole w packet is)

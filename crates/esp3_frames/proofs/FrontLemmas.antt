-- The front of a text decides whether it begins with a packet, may become one, or never does.
use Rattle.std.proofs.Common.{◌≡◌, ℕ, ◌+◌, ◌-◌, ◌*◌, ◌<◌, ◌≤◌, List, [], ◌∷◌, ◌++◌, length, take, drop, replicate, refl}
use Rattle.std.proofs.Common.{sym, ap, ◌∙◌, subst, append_assoc, arith, length-append, length-take, length-drop, suc}
use Rattle.std.proofs.Common.{◌⊎◌, inl, inr}
use Rattle.std.proofs.Math.ListN.{length-replicate}
use Rattle.std.proofs.Math.Seq.{take-append_seam, drop-append_seam, get_or-append_seam}
use Rattle.std.proofs.lemmas.Bool.{cases_lt}
use Rattle.std.proofs.lemmas.Bool.Decides.{nat_tests}
use Rattle.std.proofs.lemmas.List.{append-nil, nil_from_length, take-append-drop, take-append-le, take_more}
use Rattle.esp3_frames.specs.Check.{check}
use Rattle.esp3_frames.specs.Packet.{Packet, IsPacket, OneReading, max_packet, spelling}
use Rattle.esp3_frames.specs.Framing.{BeginsWithPacket, MayBecomePacket, NeverPacket}
use Rattle.esp3_frames.specs.PacketsAndRest.{Front, front_of}
use Rattle.esp3_frames.specs.PacketsAndRest.Front.{Never, Partial, Whole}
use Rattle.esp3_frames.proofs.FrontByHeader.{short-no_whole}

-- ---- texts that begin with a packet

front-spelling : (p : Packet) (rest : List ℕ) → IsPacket p (spelling p) → front_of (spelling p ++ rest) ≡ Whole p
unfolding front_of
front-spelling p rest is =
    grind (arith, append_assoc, take-append_seam, drop-append_seam, get_or-append_seam, length-append)

pub front-packet : {p : Packet} {front : List ℕ} (w rest : List ℕ) → IsPacket p front → w ≡ front ++ rest
    → front_of w ≡ Whole p
front-packet {p} {front} w rest is whole = grind (arith, front-spelling)

pub one_reading : OneReading
one_reading p q v w rest is was whole =
    let first = front-packet w rest is whole in
    let second = front-packet w [] was (sym (append-nil w)) in
    let same : p ≡ q = cc in
    let bytes : w ≡ v = was.bytes ∙ ap spelling (sym same) ∙ sym is.bytes in
    (same, nil_from_length rest (omega (arith, ap length whole, ap length bytes, length-append v rest)))

pub packet_length : (p : Packet) (w : List ℕ) → IsPacket p w → length w ≡ length p.body + length p.opt + 7
packet_length p w is = grind (arith, length-append, ap length is.bytes)

whole_bytes : (s h l o k c : ℕ) (w : List ℕ) (p : Packet) → front_of (s ∷ h ∷ l ∷ o ∷ k ∷ c ∷ w) ≡ Whole p
    → (length p.body + length p.opt < length w)
    × IsPacket p (s ∷ h ∷ l ∷ o ∷ k ∷ c ∷ take (length p.body + length p.opt + 1) w)
unfolding front_of
whole_bytes s h l o k c w p whole = grind (arith, nat_tests, length-take, length-drop, take_more, take-append-drop)

pub whole-at_front : (w : List ℕ) (p : Packet) → front_of w ≡ Whole p
    → (length p.body + length p.opt + 7 ≤ length w) × (length p.body + length p.opt + 7 ≤ max_packet)
    × IsPacket p (take (length p.body + length p.opt + 7) w)
whole-at_front (s ∷ h ∷ l ∷ o ∷ k ∷ c ∷ w) p whole =
    let is = whole_bytes s h l o k c w p whole in
    let m : ℕ = length p.body + length p.opt in
    let n : m + 7 ≡ suc (suc (suc (suc (suc (suc (m + 1)))))) = omega arith in
    (omega arith, omega arith, rw n is.1)
whole-at_front w p whole = absurd (short-no_whole w (omega arith) p whole)

-- ---- texts that may become a packet

may_become-shorter : (w t : List ℕ) → MayBecomePacket (w ++ t) → MayBecomePacket w
may_become-shorter w t may = grind (arith, length-append, append_assoc)

-- a header, followed by at most as many bytes as it announces, is completed by zeros and their CRC
header_may_become : (s h l o k c : ℕ) (w : List ℕ) → front_of (s ∷ h ∷ l ∷ o ∷ k ∷ c ∷ w) ≡ Partial
    → MayBecomePacket (s ∷ h ∷ l ∷ o ∷ k ∷ c ∷ w)
unfolding front_of
header_may_become s h l o k c w partial =
    let data_len : ℕ = 256 * h + l in
    let zeros = replicate (data_len + o - length w) 0 in
    let m = w ++ zeros in
    record {
      packet = record { kind = k; body = take data_len m; opt = drop data_len m };
      more = zeros ++ check m ∷ [];
      proper = omega (arith, length-append zeros (check m ∷ []));
      whole = grind (
        arith,
        nat_tests,
        length-take,
        length-drop,
        length-append,
        append_assoc,
        take-append-drop,
        length-replicate {A = ℕ},
      );
    }

five_may_become : (s h l o k : ℕ) → front_of (s ∷ h ∷ l ∷ o ∷ k ∷ []) ≡ Partial
    → MayBecomePacket (s ∷ h ∷ l ∷ o ∷ k ∷ [])
unfolding front_of
five_may_become s h l o k partial =
    let c = check (h ∷ l ∷ o ∷ k ∷ []) in
    may_become-shorter (s ∷ h ∷ l ∷ o ∷ k ∷ []) (c ∷ []) (header_may_become s h l o k c [] (grind (arith, nat_tests)))

-- less than five bytes are completed by the bytes that `may_begin` assumes
pub front_partial : (w : List ℕ) → front_of w ≡ Partial → MayBecomePacket w
unfolding front_of
front_partial [] e = may_become-shorter [] (0x55 ∷ 0 ∷ 0 ∷ 1 ∷ 0 ∷ []) (five_may_become 0x55 0 0 1 0 refl)
front_partial (s ∷ []) e = may_become-shorter (s ∷ []) (0 ∷ 0 ∷ 1 ∷ 0 ∷ []) (five_may_become s 0 0 1 0 e)
front_partial (s ∷ h ∷ []) e = may_become-shorter (s ∷ h ∷ []) (0 ∷ 1 ∷ 0 ∷ []) (five_may_become s h 0 1 0 e)
front_partial (s ∷ h ∷ l ∷ []) e = may_become-shorter (s ∷ h ∷ l ∷ []) (1 ∷ 0 ∷ []) (five_may_become s h l 1 0 e)
front_partial (s ∷ h ∷ l ∷ o ∷ []) e = may_become-shorter (s ∷ h ∷ l ∷ o ∷ []) (0 ∷ []) (five_may_become s h l o 0 e)
front_partial (s ∷ h ∷ l ∷ o ∷ k ∷ []) e = five_may_become s h l o k e
front_partial (s ∷ h ∷ l ∷ o ∷ k ∷ c ∷ w) e = header_may_become s h l o k c w e

pub partial_short : (w : List ℕ) → front_of w ≡ Partial → length w < max_packet
partial_short w partial =
    let may = front_partial w partial in
    let size = packet_length may.packet (w ++ may.more) may.whole in
    omega (arith, may.proper, may.whole.body, may.whole.opt, size, length-append w may.more)

pub front-empty : front_of [] ≡ Partial
unfolding front_of
front-empty = refl

pub empty_may_become : MayBecomePacket []
empty_may_become = front_partial [] front-empty

-- ---- the front of a text that may become a packet

front-part : (w : List ℕ) (p : Packet) (more : List ℕ) → w ++ more ≡ spelling p → IsPacket p (spelling p)
    → 0 < length more → front_of w ≡ Partial
unfolding front_of
front-part [] p more e is some = refl
front-part (s ∷ []) p more e is some = grind (arith, nat_tests)
front-part (s ∷ h ∷ []) p more e is some = grind (arith, nat_tests)
front-part (s ∷ h ∷ l ∷ []) p more e is some = grind (arith, nat_tests)
front-part (s ∷ h ∷ l ∷ o ∷ []) p more e is some = grind (arith, nat_tests)
front-part (s ∷ h ∷ l ∷ o ∷ k ∷ []) p more e is some = grind (arith, nat_tests)
front-part (s ∷ h ∷ l ∷ o ∷ k ∷ c ∷ w) p more e is some = grind (arith, nat_tests, length-append, ap length e)

pub front-may_become : (w : List ℕ) → MayBecomePacket w → front_of w ≡ Partial
front-may_become w may = grind (arith, front-part)

-- ---- exactly one of the three cases holds

whole_begins : (w : List ℕ) (p : Packet) → front_of w ≡ Whole p → BeginsWithPacket w
whole_begins w p whole =
    let n : ℕ = length p.body + length p.opt + 7 in
    record {
      packet = p;
      front = take n w;
      rest = drop n w;
      whole = (whole-at_front w p whole).2;
      is = sym (take-append-drop n w);
    }

pub front_never : (w : List ℕ) → front_of w ≡ Never → NeverPacket w
front_never w never = grind (arith, front-packet, front-may_become)

pub one_front_case_holds : (w : List ℕ) → BeginsWithPacket w ⊎ (MayBecomePacket w ⊎ NeverPacket w)
one_front_case_holds w = by_front (front_of w) refl
  where
    by_front : (f : Front) → front_of w ≡ f → BeginsWithPacket w ⊎ (MayBecomePacket w ⊎ NeverPacket w)
    by_front Never is = inr (inr (front_never w is))
    by_front Partial is = inr (inl (front_partial w is))
    by_front (Whole p) is = inl (whole_begins w p is)

pub front-never_packet : (w : List ℕ) → NeverPacket w → front_of w ≡ Never
front-never_packet w never = by_front (front_of w) refl
  where
    by_front : (f : Front) → front_of w ≡ f → f ≡ Never
    by_front Never is = refl
    by_front Partial is = absurd (never.1 (front_partial w is))
    by_front (Whole p) is = absurd (never.0 (whole_begins w p is))

pub begins_not_may : (w : List ℕ) → BeginsWithPacket w → MayBecomePacket w → ⊥
begins_not_may w begins may =
    let whole = front-packet w begins.rest begins.whole begins.is in
    let partial = front-may_become w may in cc

-- ---- a text with more bytes

pub begins-longer : (w t : List ℕ) → BeginsWithPacket w → BeginsWithPacket (w ++ t)
begins-longer w t begins = grind (arith, append_assoc)

-- of two prefixes of one list, the shorter is a prefix of the longer
prefix_of_longer : (v w s t : List ℕ) → v ++ s ≡ w ++ t → length v ≤ length w → w ≡ v ++ drop (length v) w
prefix_of_longer v w s t e shorter =
    let front : v ≡ take (length v) w =
    sym (take-append_seam v s) ∙ ap (take (length v)) e ∙ take-append-le (length v) w t shorter in
    sym (take-append-drop (length v) w) ∙ ap (λ (x : List ℕ). x ++ drop (length v) w) (sym front)

pub never-longer : (w t : List ℕ) → NeverPacket w → NeverPacket (w ++ t)
never-longer w t never = (
  λ begins. (
      let packet = begins.packet in
      let front = begins.front in
      elim (cases_lt (length w) (length front)) [
        | inl less ↦ never.1 (record {
          packet = packet;
          more = drop (length w) front;
          proper = omega (arith, less, length-drop (length w) front);
          whole = subst (IsPacket packet) (prefix_of_longer w front t begins.rest begins.is (omega (arith, less)))
              begins.whole;
        })
        | inr more ↦ never.0 (record {
          packet = packet;
          front = front;
          rest = drop (length front) w;
          whole = begins.whole;
          is = prefix_of_longer front w begins.rest t (sym begins.is) more;
        })
      ]
      ),
  λ may. never.1 (may_become-shorter w t may),
)

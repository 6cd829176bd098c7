-- The framing of a stream, computed. Theorem `framing_is_unique`: it is the only framing of the stream.
use Rattle.std.specs.Prelude.{ℕ, zero, suc, ◌+◌, ◌*◌, List, [], ◌∷◌, length, take, drop, Bool, ◌&&◌, nat_le}
use Rattle.std.specs.Prelude.{◌==◌, slice_index, slice_index_or, if◌then◌else◌}
use Rattle.esp3_frames.specs.Check.{check}
use Rattle.esp3_frames.specs.Packet.{announces_data, Packet}

-- some packet may begin with these at most five bytes; missing bytes are assumed to be valid
abbrev pub may_begin : List ℕ → Bool
may_begin w =
    slice_index_or w 0 0x55 == 0x55
    && announces_data (slice_index_or w 1 0) (slice_index_or w 2 0) (slice_index_or w 3 1)

-- the front of a text: no packet whatever follows, a part of one, or a whole one
pub data Front : Type 0 where
  Never : Front
  Partial : Front
  Whole : Packet → Front

-- the front of a text whose first six bytes are a valid header with these lengths and this type, followed by w
abbrev pub front_after_header : (data_len opt_len kind : ℕ) → (w : List ℕ) → Front
front_after_header d o kind w =
    if nat_le (length w) (d + o) then Partial
    else if slice_index w (d + o) == check (take (d + o) w) then Whole
    (record { kind = kind; body = take d (take (d + o) w); opt = drop d (take (d + o) w) })
    else Never

unfoldable pub front_of : List ℕ → Front
front_of (s ∷ h ∷ l ∷ o ∷ k ∷ c ∷ w) =
    if may_begin (s ∷ h ∷ l ∷ o ∷ []) && c == check (h ∷ l ∷ o ∷ k ∷ []) then front_after_header (256 * h + l) o k w
    else Never
front_of w = if may_begin w then Partial else Never

-- the packets of a stream, and the rest after them
pub record PacketsAndRest : Type 0 where
  pub ready : List Packet
  pub rest : List ℕ

-- the packets and the rest of a stream after its first `skip` bytes, which belong to an earlier packet
unfoldable pub packets_and_rest_after_skipping : (skip : ℕ) → List ℕ → PacketsAndRest
packets_and_rest_after_skipping n [] = record { ready = []; rest = [] }
packets_and_rest_after_skipping (suc n) (b ∷ s) = packets_and_rest_after_skipping n s
packets_and_rest_after_skipping zero (b ∷ s) =
    elim (front_of (b ∷ s)) [
      | Never ↦ packets_and_rest_after_skipping zero s
      | Partial ↦ record { ready = []; rest = b ∷ s }
      | Whole p ↦
          let c = packets_and_rest_after_skipping (length p.body + length p.opt + 6) s in
          record { ready = p ∷ c.ready; rest = c.rest }
    ]

abbrev pub packets_and_rest : List ℕ → PacketsAndRest
packets_and_rest s = packets_and_rest_after_skipping zero s

-- the packets in a stream
abbrev pub packets_in : List ℕ → List Packet
packets_in s = (packets_and_rest s).ready

-- the rest of a stream after its packets
abbrev pub rest_of : List ℕ → List ℕ
rest_of s = (packets_and_rest s).rest

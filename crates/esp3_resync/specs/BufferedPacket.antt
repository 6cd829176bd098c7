-- The contents of a buffer for a returned packet.
use Rattle.std.specs.Prelude.{◌≡◌, ℕ, ◌+◌, ◌≤◌, List, length, take, drop, vec_capacity, Option, Some, None, IfSome}
use Rattle.std.specs.Global.{Vec}
use Rattle.esp3_frames.specs.Packet.{Packet, max_packet}
use Rattle.esp3_frames.specs.declared.packet.Header.{Header}

-- the packet with the header h whose data, followed by the optional data, is v
abbrev pub packet_with : Header → (data_and_opt : List ℕ) → Packet
packet_with h v = record { kind = h.kind; body = take h.data_len v; opt = drop h.data_len v }

-- the contents of a buffer: nothing yet, or a packet
abbrev pub buffered_packet : Option Header → List ℕ → Option Packet
buffered_packet None v = None
buffered_packet (Some h) v = Some (packet_with h v)

-- there is capacity for every packet, and what is kept has the lengths that its header announced
pub record IsPacketBuffer (v : Vec ℕ) (h : Option Header) : Type 0 where
  pub room : max_packet ≤ vec_capacity v
  pub lengths : IfSome h (λ x. x.data_len + x.opt_len ≡ length v.items)

-- A framer's knowledge about the front of its bytes.
use Rattle.std.specs.Prelude.{◌≡◌, ◌≢◌, ℕ, ◌+◌, ◌<◌, ◌≤◌, List, [], ◌⊎◌, length, take, drop, slice_index, Ok}
use Rattle.esp3_frames.specs.Packet.{Packet}
use Rattle.esp3_frames.specs.PacketsAndRest.{front_of}
use Rattle.esp3_frames.specs.PacketsAndRest.Front.{Partial, Whole}
use Rattle.esp3_frames.specs.Outcome.{header_of}
use Rattle.esp3_frames.specs.declared.packet.Header.{Header}
use Rattle.esp3_resync.specs.BufferedPacket.{packet_with}
use Rattle.esp3_resync.specs.declared.front.WindowFront.{WindowFront}
use Rattle.esp3_resync.specs.declared.front.WindowFront.TheVariants as found

-- the bytes w begin with the header h
abbrev pub HasHeader : List ℕ → Header → Type 0
HasHeader w h = (6 ≤ length w) × (header_of (take 6 w) ≡ Ok h)

-- the packet at the front of w, with the header h
abbrev pub packet_at : Header → List ℕ → Packet
packet_at h w = packet_with h (take (h.data_len + h.opt_len) (drop 6 w))

-- The code's result agrees with the beginning of the bytes w. For a partial packet, w has its header and fewer bytes
-- than the packet has, so `front_of w` is Partial.
abbrev pub IsWindowFront : WindowFront → List ℕ → Type 0
IsWindowFront found.Empty w = w ≡ []
IsWindowFront found.PartialHeader w = (front_of w ≡ Partial) × (0 < length w) × (length w < 6)
IsWindowFront (found.PartialPacket h) w = HasHeader w h × (length w < h.data_len + h.opt_len + 7)
IsWindowFront (found.WholePacket h) w = front_of w ≡ Whole (packet_at h w)

-- v is w from its first sync byte on, or nothing if it has none
pub record ReachesSync (w v : List ℕ) : Type 0 where
  pub count : ℕ
  pub within : count ≤ length w
  pub is : v ≡ drop count w
  pub none : (i : ℕ) → i < count → slice_index w i ≢ 0x55
  pub stops : (v ≡ []) ⊎ (slice_index v 0 ≡ 0x55)

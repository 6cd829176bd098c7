-- The running CRCs that a window keeps beside its bytes.
use Rattle.std.specs.Prelude.{◌≡◌, ℕ, ◌+◌, ◌<◌, ◌≤◌, List, ◌++◌, length, take, slice_index, vec_capacity}
use Rattle.std.specs.Global.{Vec}
use Rattle.circular_buffer.specs.Buffer.{Buffer}
use Rattle.esp3_frames.specs.Check.{check}
use Rattle.esp3_frames.specs.Packet.{max_packet}

-- the number of bytes whose CRCs can be stored: the longest packet, and those that may come between two moves. Own
-- choice
abbrev pub crc_capacity : ℕ
crc_capacity = max_packet + 8192

-- `crcs` has at `start + i` the CRC of the dropped bytes and of the first i of these
abbrev pub HasRunningCrcs : (dropped bytes : List ℕ) (start : ℕ) (crcs : List ℕ) → Type 0
HasRunningCrcs dropped bytes start crcs =
    (i : ℕ) → i ≤ length bytes → slice_index crcs (start + i) ≡ check (dropped ++ take i bytes)

-- The ring has a place for each byte of the longest packet, and `crcs` has the running CRCs of its bytes.
pub record HasHeldBytesAndCrcs (bytes : Buffer ℕ) (crcs : Vec ℕ) (start : ℕ) : Type 0 where
  pub has_capacity : (bytes.capacity ≡ max_packet) × (crc_capacity < vec_capacity crcs)
  pub within : (length bytes.items ≤ max_packet) × (start + length bytes.items ≤ crc_capacity)
  pub enough_slots : start + length bytes.items < length crcs.items
  -- all bytes that came before these
  pub dropped : List ℕ
  pub crcs_are_running : HasRunningCrcs dropped bytes.items start crcs.items

-- The packets in a stream of bytes (EnOcean Serial Protocol 3, "UART synchronization (packet detection)").
use Rattle.std.specs.Prelude.{◌≡◌, ℕ, ◌<◌, List, [], ◌∷◌, ◌++◌, length}
use Rattle.esp3_frames.specs.Packet.{Packet, IsPacket}

-- a packet is a prefix of w
pub record BeginsWithPacket (w : List ℕ) : Type 0 where
  pub packet : Packet
  pub front : List ℕ
  pub rest : List ℕ
  pub whole : IsPacket packet front
  pub is : w ≡ front ++ rest

-- w is a proper prefix of a packet
pub record MayBecomePacket (w : List ℕ) : Type 0 where
  pub packet : Packet
  pub more : List ℕ
  pub proper : 0 < length more
  pub whole : IsPacket packet (w ++ more)

-- neither, whatever follows
abbrev pub NeverPacket : List ℕ → Type 0
NeverPacket w = (¬ BeginsWithPacket w) × (¬ MayBecomePacket w)

-- A framing of a stream is a sequence of packets and single skipped bytes, and then a rest that may become a packet. A
-- byte is skipped only if no packet can begin there. Own choice: after a rejected sync byte the search continues at the
-- very next byte.
pub data Framing : List ℕ → List Packet → List ℕ → Type 0 where
  ends : {s : List ℕ} → MayBecomePacket s → Framing s [] s
  skips : {b : ℕ} {s : List ℕ} {ps : List Packet} {rest : List ℕ} → NeverPacket (b ∷ s) → Framing s ps rest
      → Framing (b ∷ s) ps rest
  finds : {w : List ℕ} {p : Packet} {front s : List ℕ} {ps : List Packet} {rest : List ℕ} → IsPacket p front
      → w ≡ front ++ s → Framing s ps rest → Framing w (p ∷ ps) rest

-- Numbers read from bits and from bytes, and the packets of a stream of bytes.
use Rattle.std.proofs.Common.{◌≡◌, ℕ, zero, suc, ◌*◌, ◌<◌, ◌≤◌, ◌^◌, List, [], ◌∷◌, ◌++◌, length, take, drop, map, sym}
use Rattle.std.proofs.Common.{length-take, subst, arith, append_assoc, lit<, rules}
use Rattle.std.specs.Prelude.{slice_index}
use Rattle.std.specs.Int.{w32, from_be_bytes}
use Rattle.std.specs.List.{All, AllByRecursion}
use Rattle.std.proofs.lemmas.Nat.{mul-le}
use Rattle.std.proofs.Math.Nat.{pow-suc, pow-le-pow_right}
use Rattle.bit_fields.specs.Bits.{byte_bits, bits, number, field}
use Rattle.esp3_frames.specs.Check.{check}
use Rattle.esp3_frames.specs.Packet.{Packet, IsPacket, header}
use Rattle.esp3_frames.specs.PacketsAndRest.{packets_in}
use Rattle.esp3_frames.specs.Framing.{Framing}
use Rattle.esp3_frames.specs.Framing.Framing.{ends, skips, finds}
use Rattle.esp3_frames.proofs.ForCallers.{framing_of}
use Rattle.gateway_core.specs.Step.{Input, Received}
use Rattle.gateway_core.specs.Events.{Chunk, Line, new_packets, bytes_in, inputs_of}
use Rattle.gateway_core.specs.Ranges.{PacketBodyIsBytes, InputsAreOfBytes}

-- ---- a field is below two to the power of its length

-- each is 0 or 1
abbrev AreBits : List ℕ → Type 0
AreBits [] = Unit {0}
AreBits (x ∷ xs) = (x < 2) × AreBits xs

AreBits-bits : (bytes : List ℕ) → AreBits (bits bytes)
unfolding bits byte_bits
AreBits-bits [] = tt
AreBits-bits (b ∷ bytes) = search (rules, AreBits-bits bytes) parts 10

AreBits-drop : (k : ℕ) (xs : List ℕ) → AreBits xs → AreBits (drop k xs)
AreBits-drop zero xs are = are
AreBits-drop (suc k) [] are = tt
AreBits-drop (suc k) (x ∷ xs) are = AreBits-drop k xs are.1

AreBits-take : (k : ℕ) (xs : List ℕ) → AreBits xs → AreBits (take k xs)
AreBits-take zero xs are = tt
AreBits-take (suc k) [] are = tt
AreBits-take (suc k) (x ∷ xs) are = (are.0, AreBits-take k xs are.1)

number-below : (xs : List ℕ) → AreBits xs → number xs < 2 ^ length xs
unfolding number
number-below [] are = lit< tt
number-below (x ∷ xs) are =
    let rest : number xs < 2 ^ length xs = number-below xs are.1 in
    let twice : 2 ^ suc (length xs) ≡ 2 ^ length xs * 2 = pow-suc 2 (length xs) in
    let first : x * 2 ^ length xs ≤ 1 * 2 ^ length xs =
    mul-le x (2 ^ length xs) 1 (2 ^ length xs) (omega (arith, are.0)) (omega arith) in
    rw twice (omega arith)

pub field-below : (bytes : List ℕ) (offset len : ℕ) → field bytes offset len < 2 ^ len
unfolding field
field-below bytes offset len =
    let part = take len (drop offset (bits bytes)) in
    let below : number part < 2 ^ length part =
    number-below part (AreBits-take len (drop offset (bits bytes))
    (AreBits-drop offset (bits bytes) (AreBits-bits bytes))) in
    let few : length part ≤ len = omega (arith, length-take {A = ℕ}) in
    let up : 2 ^ length part ≤ 2 ^ len = pow-le-pow_right {n = 2} (omega arith) (omega arith) in
    omega (arith, below, up)

-- ---- bytes

pub four-below : (id : List ℕ) → slice_index id 0 < 256 → slice_index id 1 < 256 → slice_index id 2 < 256
    → slice_index id 3 < 256 → from_be_bytes w32 id < 2 ^ 32
four-below id a b c d = omega (arith, a, b, c, d)

abbrev pub AreBytes : List ℕ → Type 0
AreBytes = All (λ byte. byte < 256)

pub AreBytes-front : (front behind : List ℕ) → AreBytes (front ++ behind) → AreBytes front
AreBytes-front [] behind all k d inside = absurd (omega (arith, inside))
AreBytes-front (x ∷ front) behind all zero d inside = all 0 d (omega arith)
AreBytes-front (x ∷ front) behind all (suc k) d inside =
    AreBytes-front front behind (λ i e h. all (suc i) e (omega (arith, h))) k d (omega (arith, inside))

pub AreBytes-back : (front behind : List ℕ) → AreBytes (front ++ behind) → AreBytes behind
AreBytes-back [] behind all = all
AreBytes-back (x ∷ front) behind all = AreBytes-back front behind (λ k d h. all (suc k) d (omega (arith, h)))

-- ---- a stream of bytes

abbrev HasByteData : Packet → Type 0
HasByteData packet = AreBytes packet.body

AreBytes-packet : (stream front behind : List ℕ) (packet : Packet) → IsPacket packet front → stream ≡ front ++ behind
    → AreBytes stream
    → HasByteData packet × AreBytes behind
AreBytes-packet stream front behind packet whole is all =
    let parts : AreBytes (front ++ behind) = subst AreBytes is all in
    let bytes = subst AreBytes whole.bytes (AreBytes-front front behind parts) in
    let body = AreBytes-back (0x55 ∷ header packet ++ check (header packet) ∷ []) (packet.body ++ packet.opt ++ check
    (packet.body ++ packet.opt) ∷ [])
    bytes in (
      AreBytes-front packet.body packet.opt (AreBytes-front (packet.body ++ packet.opt) (check
          (packet.body ++ packet.opt) ∷ []) body),
      AreBytes-back front behind parts,
    )

AreBytes-framed : {stream : List ℕ} {packets : List Packet} {rest : List ℕ} → Framing stream packets rest
    → AreBytes stream
    → AllByRecursion HasByteData packets
AreBytes-framed (ends may) all = tt
AreBytes-framed (skips never framing) all = AreBytes-framed framing (λ k d h. all (suc k) d (omega (arith, h)))
AreBytes-framed (finds whole is framing) all =
    let parts = AreBytes-packet _ _ _ _ whole is all in (parts.0, AreBytes-framed framing parts.1)

HasByteData-drop : (n : ℕ) (packets : List Packet) → AllByRecursion HasByteData packets
    → AllByRecursion HasByteData (drop n packets)
HasByteData-drop zero packets all = all
HasByteData-drop (suc n) [] all = tt
HasByteData-drop (suc n) (packet ∷ packets) all = HasByteData-drop n packets all.1

PacketBodyIsBytes-joined : (packets : List Packet) (inputs : List Input) → AllByRecursion HasByteData packets
    → AllByRecursion PacketBodyIsBytes inputs → AllByRecursion PacketBodyIsBytes (map Received packets ++ inputs)
PacketBodyIsBytes-joined [] inputs all more = more
PacketBodyIsBytes-joined (packet ∷ packets) inputs all more =
    (all.0, PacketBodyIsBytes-joined packets inputs all.1 more)

pub inputs_are_of_bytes : InputsAreOfBytes
inputs_are_of_bytes stream [] all = tt
inputs_are_of_bytes stream (Chunk bytes ∷ events) all =
    let grouped : AreBytes ((stream ++ bytes) ++ bytes_in events) =
    subst AreBytes (sym (append_assoc stream bytes (bytes_in events))) all in
    PacketBodyIsBytes-joined (new_packets stream bytes) (inputs_of (stream ++ bytes) events)
    (HasByteData-drop (length (packets_in stream)) (packets_in (stream ++ bytes))
    (AreBytes-framed (framing_of (stream ++ bytes)) (AreBytes-front (stream ++ bytes) (bytes_in events) grouped)))
    (inputs_are_of_bytes (stream ++ bytes) events grouped)
inputs_are_of_bytes stream (Line line ∷ events) all = (tt, inputs_are_of_bytes stream events all)

-- The value of a gateway, how each call changes it, and what any calls together do.
use Rattle.std.specs.Prelude.{◌≡◌, ℕ, ◌<◌, List, [], ◌∷◌, ◌++◌, length, take, Option, Some, None}
use Rattle.learned_devices.specs.DeviceStoreState.{DeviceStoreState}
use Rattle.esp3_frames.specs.Packet.{Packet}
use Rattle.esp3_frames.specs.PacketsAndRest.{packets_in, rest_of}
use Rattle.teach_in.specs.declared.mode.Mode.TheVariants.{Closed}
use Rattle.gateway_state.specs.Counts.{zero_counts}
use Rattle.gateway_core.specs.Step.{Input, Received, Ordered, Answer}
use Rattle.gateway_core.specs.Handling.{HandlerValue, Handles}

-- the value of a gateway: what it knows, the ready packets, and the rest of the stream, which may become one more
-- packet
pub record GatewayValue (S : Type 0) : Type 0 where
  pub handler : HandlerValue S
  pub ready : List Packet
  pub rest : List ℕ

-- a handler with this base ID over this device store, with the mode closed and all counters 0
abbrev pub new_handler : {S : Type 0} → (base : ℕ) → S → HandlerValue S
new_handler base registry = record { base = base; mode = Closed; counts = zero_counts; registry = registry }

-- a gateway with such a handler, before its first byte
abbrev pub new_gateway_value : {S : Type 0} → (base : ℕ) → S → GatewayValue S
new_gateway_value base registry = record { handler = new_handler base registry; ready = []; rest = [] }

-- a call, with its argument and its answer
pub data Call : Type 0 where
  Bytes : (bytes : List ℕ) → Call
  Next : (answer : Option Answer) → Call
  Order : (line : List ℕ) (answer : Answer) → Call

module _ {S : Type 0} (stored : S → DeviceStoreState) where
  -- the call takes the gateway from old to new
  abbrev pub Transition : GatewayValue S → Call → GatewayValue S → Type 0
  -- the bytes are appended to the rest, which is framed again; this is allowed if no packet is ready
  Transition old (Bytes bytes) new =
      (old.ready ≡ []) × (new.handler ≡ old.handler) × (new.ready ≡ packets_in (old.rest ++ bytes))
      × (new.rest ≡ rest_of (old.rest ++ bytes))
  -- the first ready packet is handled
  Transition old (Next (Some answer)) new =
      (packet : Packet) × (old.ready ≡ packet ∷ new.ready) × (new.rest ≡ old.rest)
      × Handles stored old.handler (Received packet ∷ []) (answer ∷ []) new.handler
  -- no packet is ready
  Transition old (Next None) new = (old.ready ≡ []) × (new ≡ old)
  -- a line is handled
  Transition old (Order line answer) new =
      (new.ready ≡ old.ready) × (new.rest ≡ old.rest)
      × Handles stored old.handler (Ordered line ∷ []) (answer ∷ []) new.handler

  -- the calls take the gateway from old to new, one after another
  abbrev pub Transitions : (old : GatewayValue S) → List Call → (new : GatewayValue S) → Type 0
  Transitions old [] new = new ≡ old
  Transitions old (call ∷ calls) new = (mid : GatewayValue S) × Transition old call mid × Transitions mid calls new

-- the bytes given to the calls
abbrev pub bytes_of : List Call → List ℕ
bytes_of [] = []
bytes_of (Bytes bytes ∷ calls) = bytes ++ bytes_of calls
bytes_of (Next answer ∷ calls) = bytes_of calls
bytes_of (Order line answer ∷ calls) = bytes_of calls

-- the answers of the calls
abbrev pub answers_of : List Call → List Answer
answers_of [] = []
answers_of (Bytes bytes ∷ calls) = answers_of calls
answers_of (Next None ∷ calls) = answers_of calls
answers_of (Next (Some answer) ∷ calls) = answer ∷ answers_of calls
answers_of (Order line answer ∷ calls) = answer ∷ answers_of calls

-- the calls' inputs, in the order of the calls, if these packets were handled
abbrev pub AreInputs : List Call → List Packet → List Input → Type 0
AreInputs [] packets inputs = (packets ≡ []) × (inputs ≡ [])
AreInputs (Bytes bytes ∷ calls) packets inputs = AreInputs calls packets inputs
AreInputs (Next None ∷ calls) packets inputs = AreInputs calls packets inputs
AreInputs (Next (Some answer) ∷ calls) (packet ∷ packets) (input ∷ inputs) =
    (input ≡ Received packet) × AreInputs calls packets inputs
AreInputs (Order line answer ∷ calls) packets (input ∷ inputs) = (input ≡ Ordered line) × AreInputs calls packets inputs
AreInputs calls packets inputs = ⊥

-- The packets handled, followed by the ready ones, are the packets of the bytes given; those handled are a prefix of
-- these, and all of them if none is ready. The answers are a run on packets and lines, in the order of the calls.
pub record IsRunOfCalls {S : Type 0} (stored : S → DeviceStoreState) (old : GatewayValue S) (calls : List Call)
    (new : GatewayValue S) : Type 0 where
  pub handled : List Packet
  pub inputs : List Input
  pub packets : packets_in (bytes_of calls) ≡ handled ++ new.ready
  pub rest : rest_of (bytes_of calls) ≡ new.rest
  pub in_order : AreInputs calls handled inputs
  pub run : Handles stored old.handler inputs (answers_of calls) new.handler

-- any calls of a new gateway
abbrev pub CallsAreARun : {S : Type 0} → (S → DeviceStoreState) → Type 0
CallsAreARun {S} stored = (base : ℕ) (registry : S) (calls : List Call) (new : GatewayValue S) →
    Transitions stored (new_gateway_value base registry) calls new
    → IsRunOfCalls stored (new_gateway_value base registry) calls new

-- one call for each of these bytes
abbrev pub byte_calls : List ℕ → List Call
byte_calls [] = []
byte_calls (byte ∷ bytes) = Bytes (byte ∷ []) ∷ byte_calls bytes

-- one call with several bytes, of which only the last may make a packet ready, does what one call for each does
abbrev pub BytesOneByOne : {S : Type 0} → (S → DeviceStoreState) → Type 0
BytesOneByOne {S} stored = (old new : GatewayValue S) (bytes : List ℕ) → 0 < length bytes →
    ((k : ℕ) → k < length bytes → packets_in (old.rest ++ take k bytes) ≡ []) →
    Transition stored old (Bytes bytes) new → Transitions stored old (byte_calls bytes) new

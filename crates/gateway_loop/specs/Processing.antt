-- The inputs that a `Driver` handles, and the answers that it writes, for any output.
use Rattle.std.specs.Prelude.{◌≡◌, ◌<◌, List, [], ◌∷◌, ◌++◌, length, map, ℕ}
use Rattle.learned_devices.specs.DeviceStoreState.{DeviceStoreState}
use Rattle.esp3_frames.specs.Framing.{MayBecomePacket}
use Rattle.esp3_frames.specs.PacketsAndRest.{rest_of}
use Rattle.gateway_core.specs.Step.{Input, Received, Answer}
use Rattle.gateway_core.specs.Handling.{HandlerValue, Handles}
use Rattle.gateway_core.specs.Calls.{GatewayValue}
use Rattle.gateway_core.specs.Events.{InputEvent, Chunk, Line, inputs_of, bytes_in}
use Rattle.gateway_loop.specs.Script.{HasPartToLastLf, script, with_lf}

-- no packet is ready, and the rest may become one
pub record HasNoReadyPacket {S : Type 0} (gateway : GatewayValue S) : Type 0 where
  pub ready : gateway.ready ≡ []
  pub rest : MayBecomePacket gateway.rest

-- a line, or a prefix of a chunk
abbrev pub IsWholeOrChunkPrefix : (event other : InputEvent) → Type 0
IsWholeOrChunkPrefix (Chunk bytes) (Chunk some) = (more : List ℕ) × (bytes ≡ some ++ more)
IsWholeOrChunkPrefix (Line line) (Line other) = other ≡ line
IsWholeOrChunkPrefix event other = ⊥

-- the gateway is as it was directly after some input was handled with this answer
abbrev pub HasJustHandled : {S : Type 0} → (S → DeviceStoreState) → HandlerValue S → Answer → Type 0
HasJustHandled {S} stored now answer =
    (before : HandlerValue S) × (input : Input) × Handles stored before (input ∷ []) (answer ∷ []) now

-- Below, `puts` says that exactly these answers were written, and `breaks` that they were, and one more incompletely.
module _ {S : Type 0} (stored : S → DeviceStoreState) where
  -- the inputs were handled, and their answers written
  pub record AnswersInputs (old new : HandlerValue S) (inputs : List Input) (puts : List Answer → Type 0) : Type 0 where
    pub answers : List Answer
    pub handled : Handles stored old inputs answers new
    pub out : puts answers

  -- the inputs were handled, but the last answer was not written completely
  pub record LastAnswerCutShort (old new : HandlerValue S) (inputs : List Input)
      (breaks : List Answer → Answer → Type 0)
      : Type 0 where
    pub answers : List Answer
    pub last : Answer
    pub handled : Handles stored old inputs (answers ++ last ∷ []) new
    pub out : breaks answers last

  -- exactly the events' inputs were handled and answered
  pub record Processes (old new : GatewayValue S) (events : List InputEvent)
      (puts : List Answer → Type 0) : Type 0 where
    pub answered : AnswersInputs old.handler new.handler (inputs_of old.rest events) puts
    pub rest : new.rest ≡ rest_of (old.rest ++ bytes_in events)
    pub idle : HasNoReadyPacket new

  -- after these events, one event was begun, and an answer to one of its inputs was not written completely: the inputs
  -- so far were handled, and the packets that the event's bytes completed after them are ready
  pub record Breaks (old new : GatewayValue S) (events : List InputEvent) (event : InputEvent)
      (breaks : List Answer → Answer → Type 0)
      : Type 0 where
    pub begun_event : InputEvent
    pub begun_is_prefix : IsWholeOrChunkPrefix event begun_event
    pub inputs : List Input
    pub handled_of_begun_event : List Input
    pub inputs_are : inputs ≡ inputs_of old.rest events ++ handled_of_begun_event
    pub not_empty : 0 < length handled_of_begun_event
    pub ready_packets_are : inputs_of old.rest (events ++ begun_event ∷ []) ≡ inputs ++ map Received new.ready
    pub rest : new.rest ≡ rest_of (old.rest ++ bytes_in (events ++ begun_event ∷ []))
    pub answered : LastAnswerCutShort old.handler new.handler inputs breaks

  -- the lines that LF ends in what was read were processed
  pub record ProcessesEndedLines (old new : GatewayValue S) (input : List ℕ)
      (puts : List Answer → Type 0) : Type 0 where
    pub ended : List ℕ
    pub is : HasPartToLastLf input ended
    pub processed : Processes old new (script ended) puts

  -- an answer was not written completely, at the last event of a prefix of what was read that ends with LF
  pub record BreaksAtEndedLine (old new : GatewayValue S) (input : List ℕ) (breaks : List Answer → Answer → Type 0)
      : Type 0 where
    pub part : List ℕ
    pub more : List ℕ
    pub whole : input ≡ with_lf part ++ more
    pub events : List InputEvent
    pub event : InputEvent
    pub is : script (with_lf part) ≡ events ++ event ∷ []
    pub broken : Breaks old new events event breaks

  -- an answer was not written completely, at the last of these events
  pub record BreaksAtLastEvent (old new : GatewayValue S) (all : List InputEvent)
      (breaks : List Answer → Answer → Type 0)
      : Type 0 where
    pub events : List InputEvent
    pub event : InputEvent
    pub whole : all ≡ events ++ event ∷ []
    pub broken : Breaks old new events event breaks

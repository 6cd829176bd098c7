-- The events of a gateway: chunks of the serial stream, and lines of the desk between them.
use Rattle.std.specs.Prelude.{◌≡◌, ℕ, List, [], ◌∷◌, ◌++◌, length, map, drop}
use Rattle.esp3_frames.specs.Packet.{Packet}
use Rattle.esp3_frames.specs.PacketsAndRest.{packets_in}
use Rattle.gateway_core.specs.Step.{State, Input, Received, Ordered, Answer}
use Rattle.gateway_core.specs.Run.{InputResult, Run, FailAlike}

pub data InputEvent : Type 0 where
  Chunk : (bytes : List ℕ) → InputEvent
  Line : (line : List ℕ) → InputEvent

-- the packets that some bytes complete after a stream: those of the longer stream, without those of the stream itself
abbrev pub new_packets : (stream bytes : List ℕ) → List Packet
new_packets stream bytes = drop (length (packets_in stream)) (packets_in (stream ++ bytes))

-- the inputs of the events after a stream: a chunk stands for the packets that it completes, a line for itself
abbrev pub inputs_of : (stream : List ℕ) → List InputEvent → List Input
inputs_of stream [] = []
inputs_of stream (Chunk bytes ∷ events) = map Received (new_packets stream bytes) ++ inputs_of (stream ++ bytes) events
inputs_of stream (Line line ∷ events) = Ordered line ∷ inputs_of stream events

-- the bytes of all chunks
abbrev pub bytes_in : List InputEvent → List ℕ
bytes_in [] = []
bytes_in (Chunk bytes ∷ events) = bytes ++ bytes_in events
bytes_in (Line line ∷ events) = bytes_in events

-- the lines
abbrev pub desk_lines_in : List InputEvent → List (List ℕ)
desk_lines_in [] = []
desk_lines_in (Chunk bytes ∷ events) = desk_lines_in events
desk_lines_in (Line line ∷ events) = line ∷ desk_lines_in events

-- some bytes before the first of some texts
abbrev pub prepend_to_first : (bytes : List ℕ) → List (List ℕ) → List (List ℕ)
prepend_to_first bytes [] = bytes ∷ []
prepend_to_first bytes (text ∷ texts) = (bytes ++ text) ∷ texts

-- the joined bytes before the first line, between each two lines, and after the last one
abbrev pub bytes_between : List InputEvent → List (List ℕ)
bytes_between [] = [] ∷ []
bytes_between (Chunk bytes ∷ events) = prepend_to_first bytes (bytes_between events)
bytes_between (Line line ∷ events) = [] ∷ bytes_between events

-- the inputs do not depend on how the bytes between two lines are split into chunks
abbrev pub InputsDoNotDependOnChunks : Type 0
InputsDoNotDependOnChunks = (stream : List ℕ) (events others : List InputEvent) →
    desk_lines_in events ≡ desk_lines_in others → bytes_between events ≡ bytes_between others
    → inputs_of stream events ≡ inputs_of stream others

-- and if the same inputs fail for the same causes, the answers and the last state do not depend on it either
abbrev pub AnswersDoNotDependOnChunks : Type 0
AnswersDoNotDependOnChunks =
    (stream : List ℕ) (events others : List InputEvent) (old left right : State) (results after : List InputResult)
    (answers more : List Answer)
    → desk_lines_in events ≡ desk_lines_in others → bytes_between events ≡ bytes_between others
    → FailAlike results after
    → Run old (inputs_of stream events) results answers left → Run old (inputs_of stream others) after more right
    → (answers ≡ more) × (left ≡ right)

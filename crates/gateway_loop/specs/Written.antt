-- The text that is written for answers. Own choice.
use Rattle.std.specs.Prelude.{ℕ, Bool, List, [], ◌++◌, codes, Option, Some, None, if◌then◌else◌}
use Rattle.std.specs.List.{flat_map}
use Rattle.hex.specs.Hex.{encode_lower}
use Rattle.gateway_core.specs.Step.{Answer}
use Rattle.byte_io.specs.Streams.{SinkValue, sink_value}
use Rattle.byte_io.specs.declared.sink.Sink as sinks
use Rattle.gateway_loop.specs.declared.replay_output.ReplayOutput.{ReplayOutput}
use Rattle.gateway_loop.specs.OutputSpecs.{OutputSpec, output_by_flag, output_by_view}
use Rattle.gateway_loop.specs.TextOutput.{BreaksText, PutsText, text_output}

-- the radio bytes as a serial chunk, if there are any
abbrev pub radio_chunk_line : Option (List ℕ) → List ℕ
radio_chunk_line None = []
radio_chunk_line (Some bytes) = codes "S " ++ (encode_lower bytes ++ codes "\n")

-- the text for the desk: if packets are explained, the line that explains a packet comes first
abbrev pub desk_text : (explains : Bool) → Answer → List ℕ
desk_text explains answer = if explains then answer.explanation ++ answer.desk else answer.desk

abbrev pub text_of : (explains : Bool) → Answer → List ℕ
text_of explains answer = radio_chunk_line answer.radio ++ desk_text explains answer

abbrev pub written : (explains : Bool) → List Answer → List ℕ
written explains answers = flat_map (text_of explains) answers

-- exactly the text of the answers was written
abbrev pub AppendsReplayText : (explains : Bool) (old new : SinkValue) → List Answer → Type 0
AppendsReplayText explains = PutsText (text_of explains)

-- the text of the answers was written, and then only a proper prefix of the last one's
abbrev pub AppendsCutReplayText : (explains : Bool) (old new : SinkValue) → List Answer → Answer → Type 0
AppendsCutReplayText explains = BreaksText (text_of explains)

-- the text of each answer goes to the sink
abbrev pub replay_output_of : {W : Type 0} → sinks.Ghosts W → OutputSpec (ReplayOutput W)
replay_output_of {W} sink =
    output_by_view {O = ReplayOutput W} (λ out. (out.explains, sink_value sink out.sink.now))
    (output_by_flag (λ explains. text_output (text_of explains)))

-- The bytes written to the radio and to the desk for answers.
use Rattle.std.specs.Prelude.{ℕ, Bool, List, [], Option, Some, None}
use Rattle.byte_io.specs.Streams.{SinkValue, sink_value}
use Rattle.byte_io.specs.declared.sink.Sink as sinks
use Rattle.gateway_loop.specs.declared.live_outputs.LiveOutputs.{LiveOutputs}
use Rattle.gateway_loop.specs.OutputSpecs.{OutputSpec, paired_output, output_by_flag, output_by_view}
use Rattle.gateway_loop.specs.TextOutput.{text_output}
use Rattle.gateway_loop.specs.Written.{desk_text}

-- the radio bytes of an answer, if there are any
abbrev pub radio_bytes : Option (List ℕ) → List ℕ
radio_bytes None = []
radio_bytes (Some bytes) = bytes

-- for each answer the radio bytes go to the serial line, and then its text to the desk
abbrev pub live_output : (explains : Bool) → OutputSpec (SinkValue × SinkValue)
live_output explains =
    paired_output (text_output (λ answer. radio_bytes answer.radio)) (text_output (desk_text explains))

-- the same, for the two sinks that are borrowed
abbrev pub live_output_of : {R D : Type 0} → sinks.Ghosts R → sinks.Ghosts D → OutputSpec (LiveOutputs R D)
live_output_of {R} {D} serial desk =
    output_by_view {O = LiveOutputs R D} (λ out.
    (out.explains, (sink_value serial out.serial.now, sink_value desk out.desk.now)))
    (output_by_flag live_output)

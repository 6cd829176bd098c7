-- All lines that are too long are treated alike.
use Rattle.learned_devices.specs.DeviceStoreState.{DeviceStoreState}
use Rattle.std.proofs.Common.{◌≡◌, ℕ, ◌+◌, ◌-◌, ◌<◌, ◌≤◌, List, [], ◌∷◌, ◌++◌, length, take, drop, refl}
use Rattle.std.proofs.Common.{ap, sym, ◌∙◌, arith, true, false, inl, inr, map}
use Rattle.std.specs.Prelude.{Result, ◌==◌, ◌&&◌, if◌then◌else◌, nat_eq, codes, slice_index}
use Rattle.std.specs.List.{starts_with}
use Rattle.std.specs.Str.Lines.{strip_carriage_return}
use Rattle.std.proofs.lemmas.Bool.{lt-leb, cases_lt}
use Rattle.std.proofs.lemmas.List.{length-take, take_all}
use Rattle.std.proofs.lemmas.Result.{MatchResult-weaker}
use Rattle.hex.specs.Hex.{decode_of}
use Rattle.desk_orders.specs.Limits.{max_line}
use Rattle.gateway_core.specs.Step.{Input, Received, Ordered, Answer}
use Rattle.gateway_core.proofs.ForCallers.{too_long-handled_alike}
use Rattle.esp3_frames.specs.Packet.{Packet}
use Rattle.gateway_core.specs.Calls.{GatewayValue}
use Rattle.gateway_core.specs.Events.{InputEvent, Chunk, Line, inputs_of, bytes_in}
use Rattle.esp3_frames.specs.PacketsAndRest.{rest_of}
use Rattle.gateway_loop.specs.Script.{chunk_if_decoded}
use Rattle.gateway_loop.specs.declared.driver.Driver.{Driver}
use Rattle.gateway_loop.specs.OutputSpecs.{OutputSpec}
use Rattle.gateway_loop.specs.Processing.{Breaks, IsWholeOrChunkPrefix}
use Rattle.gateway_loop.specs.private.DriverSteps.{Takes, TakesOrBreaks}
use Rattle.gateway_loop.specs.private.Lines.{max_partial_line, event_of_line_from}
use Rattle.gateway_loop.specs.declared.line_splitter.LineSource.{LineSource}
use Rattle.gateway_loop.specs.declared.line_splitter.LineSource.TheVariants.{ScriptLines, DeskLines}

-- an order stands for no other input than itself, with no packet after it
Ordered-alone : (line : List ℕ) (inputs : List Input) (ready : List Packet)
    → (Ordered line ∷ []) ≡ inputs ++ map Received ready → (inputs ≡ Ordered line ∷ []) × (map Received ready ≡ [])
Ordered-alone line [] [] is = absurd cc
Ordered-alone line [] (packet ∷ ready) is = absurd cc
Ordered-alone line (input ∷ []) ready is = (cc, cc)
Ordered-alone line (input ∷ other ∷ inputs) ready is = absurd cc

event_of_line_from-long : (lines : LineSource) (line : List ℕ) → max_line < length line
    → event_of_line_from lines line ≡ Line line
event_of_line_from-long ScriptLines line too_long =
    ap (λ b. if b && starts_with nat_eq line (codes "S ") then chunk_if_decoded line (decode_of (drop 2 line)) else Line
    line)
    (lt-leb (length line) max_line too_long)
event_of_line_from-long DeskLines line too_long = refl

pub length-strip_carriage_return : (line : List ℕ) → length line ≤ length (strip_carriage_return line) + 1
length-strip_carriage_return line =
    elim (slice_index line (length line - 1) == 13) as
    (λ b. length line ≤ length (if b then take (length line - 1) line else line) + 1) [
      | true ↦ omega (arith, length-take (length line - 1) line)
      | false ↦ omega arith
    ]

module _ {S : Type 0} {stored : S → DeviceStoreState} (short long : List ℕ) (is_long : max_line < length short)
    (is_too : max_line < length long) where
  takes-long : {O : Type 0} {output : OutputSpec O} {old new : Driver O S}
      → Takes stored output old new (Line short ∷ []) → Takes stored output old new (Line long ∷ [])
  takes-long takes =
      let answered = takes.processed.answered in
      record {
        processed = record {
          answered = record {
            answers = answered.answers;
            handled = too_long-handled_alike stored _ _ short long answered.answers is_long is_too answered.handled;
            out = answered.out;
          };
          rest = takes.processed.rest;
          idle = takes.processed.idle;
        };
        counted = takes.counted;
      }

  breaks-long : {old new : GatewayValue S} {breaks : List Answer → Answer → Type 0}
      → Breaks stored old new [] (Line short) breaks → Breaks stored old new [] (Line long) breaks
  breaks-long {old} {new} {breaks} broken =
      begun broken.begun_event broken.begun_is_prefix broken.ready_packets_are broken.rest
    where
      begun : (event : InputEvent) → IsWholeOrChunkPrefix (Line short) event
          → inputs_of old.rest (event ∷ []) ≡ broken.inputs ++ map Received new.ready
          → new.rest ≡ rest_of (old.rest ++ bytes_in (event ∷ [])) → Breaks stored old new [] (Line long) breaks
      begun (Chunk bytes) is_begun inputs rest = absurd is_begun
      begun (Line line) is_begun inputs rest =
          let (only, none) = Ordered-alone line broken.inputs new.ready inputs in
          let answered = rw (only, is_begun) at broken.answered in
          record {
            begun_event = Line long;
            begun_is_prefix = refl;
            inputs = Ordered long ∷ [];
            handled_of_begun_event = Ordered long ∷ [];
            inputs_are = refl;
            not_empty = omega arith;
            ready_packets_are = ap (λ (packets : List Input). Ordered long ∷ packets) (sym none);
            rest = rest;
            answered = record {
              answers = answered.answers;
              last = answered.last;
              handled = too_long-handled_alike stored _ _ short long (answered.answers ++ answered.last ∷ []) is_long
                  is_too
                  answered.handled;
              out = answered.out;
            };
          }

-- What is kept of a line stands for the line, whether or not a CR is stripped from both.
pub TakesOrBreaks-truncated : {O S : Type 0} (stored : S → DeviceStoreState) (output : OutputSpec O) {A E : Type 0}
    (result : Result A E) (old new : Driver O S) (lines : LineSource) (strip : List ℕ → List ℕ)
    → ((line : List ℕ) → length line ≤ length (strip line) + 1) → (kept line : List ℕ)
    → kept ≡ take max_partial_line line
    → TakesOrBreaks stored output result old new (event_of_line_from lines (strip kept))
    → TakesOrBreaks stored output result old new (event_of_line_from lines (strip line))
TakesOrBreaks-truncated stored output result old new lines strip length-strip kept line is given =
    elim (cases_lt max_partial_line (length line)) [
      | inl far ↦
          let short : max_line < length (strip kept) =
          omega (arith, far, length-strip kept, ap length is, length-take max_partial_line line) in
          let long : max_line < length (strip line) = omega (arith, far, length-strip line) in
          rw (event_of_line_from-long lines (strip line) long)
          (MatchResult-weaker result (rw (event_of_line_from-long lines (strip kept) short) at given)
          (λ _ takes. takes-long (strip kept) (strip line) short long takes)
          (λ _ broken. breaks-long (strip kept) (strip line) short long broken))
      | inr near ↦ rw (is ∙ take_all max_partial_line line near) at given
    ]

-- What a `Driver` wrote to its sinks, also after the loans of the gateway and of the sinks have ended.
use Rattle.std.proofs.Common.{◌≡◌, ℕ, List, [], ◌∷◌, ◌++◌, ap, sym, ◌∙◌, append_assoc, append-nil}
use Rattle.std.specs.List.{flat_map}
use Rattle.std.specs.Str.Lines.{strip_carriage_return}
use Rattle.learned_devices.specs.DeviceStoreState.{DeviceStoreState}
use Rattle.gateway_core.specs.Step.{Answer}
use Rattle.gateway_core.specs.Calls.{GatewayValue}
use Rattle.gateway_core.specs.Events.{InputEvent}
use Rattle.byte_io.specs.Streams.{sink_value, SinkValue}
use Rattle.byte_io.specs.declared.sink.Sink as sinks
use Rattle.gateway_loop.specs.declared.driver.Driver.{Driver}
use Rattle.gateway_loop.specs.declared.line_splitter.LineSource.TheVariants.{ScriptLines}
use Rattle.gateway_loop.specs.declared.line_splitter.LineSplitter.{LineSplitter}
use Rattle.gateway_loop.specs.declared.replay_output.ReplayOutput.{ReplayOutput}
use Rattle.gateway_loop.specs.private.LineSplitting.{BreaksInBytes, TakesEndedLines}
use Rattle.gateway_loop.specs.private.Lines.{event_of_line_from, events_by}
use Rattle.gateway_loop.specs.OutputSpecs.{OutputSpec}
use Rattle.gateway_loop.specs.Processing.{Breaks, Processes, ProcessesEndedLines, BreaksAtLastEvent, BreaksAtEndedLine}
use Rattle.gateway_loop.specs.Script.{script, with_lf}
use Rattle.gateway_loop.specs.private.DriverSteps.{DriverBreaks, DriverProcesses, Takes}
use Rattle.gateway_loop.specs.Written.{AppendsReplayText, AppendsCutReplayText, replay_output_of}
use Rattle.gateway_loop.proofs.LineLemmas.{events_in-ended, events_in-first, flat_map-with_lf}
use Rattle.gateway_loop.proofs.ProcessingLemmas.{Breaks-weaker, Processes-weaker, processes-break, takes-append}
use Rattle.gateway_loop.specs.declared.live_outputs.LiveOutputs.{LiveOutputs}
use Rattle.gateway_loop.specs.LiveGateway.{BreaksAtOrder}
use Rattle.gateway_loop.specs.Turns.{Turn}
use Rattle.gateway_loop.specs.LiveOutputs.{live_output_of, live_output}

-- ---- `replay`

module _ {W S : Type 0} (stored : S → DeviceStoreState) (sink : sinks.Ghosts W) where
  abbrev replay_output : OutputSpec (ReplayOutput W)
  replay_output = replay_output_of sink

  -- the events of a script whose lines are known
  script-lines : {old new : LineSplitter (ReplayOutput W) S} {input : List ℕ}
      → (taken : TakesEndedLines stored replay_output ScriptLines old new input)
      → script input ≡ events_by ScriptLines taken.ended ++ script taken.rest
  script-lines taken = ap script taken.whole ∙ events_in-ended ScriptLines taken.ended taken.rest taken.each

  -- a whole script, with the line that its end ends
  pub takes-script : {old mid : LineSplitter (ReplayOutput W) S} {new : Driver (ReplayOutput W) S} {input : List ℕ}
      → (taken : TakesEndedLines stored replay_output ScriptLines old mid input)
      → Takes stored replay_output mid.driver new (script taken.rest) → Takes stored replay_output old.driver new
      (script input)
  takes-script taken last = rw (script-lines taken) (takes-append replay_output taken.taken last)

  -- `gateway` and `writer` are the values after the loans
  module _ (old new : LineSplitter (ReplayOutput W) S) (gateway : GatewayValue S) (writer : W)
      (same_gateway : gateway ≡ new.driver.gateway.now) (same_writer : writer ≡ new.driver.reply_sink.sink.now) where
    abbrev puts : List Answer → Type 0
    puts =
        AppendsReplayText old.driver.reply_sink.explains (sink_value sink old.driver.reply_sink.sink.now)
        (sink_value sink writer)

    abbrev breaks : List Answer → Answer → Type 0
    breaks =
        AppendsCutReplayText old.driver.reply_sink.explains (sink_value sink old.driver.reply_sink.sink.now)
        (sink_value sink writer)

    -- the events that were processed
    pub replay_processes : {events : List InputEvent}
        → DriverProcesses stored replay_output old.driver new.driver events
        → Processes stored old.driver.gateway.now gateway events puts
    replay_processes processed = rw (same_gateway, same_writer) (Processes-weaker processed (λ _ out. out.1))

    replay_breaks : {events : List InputEvent} {event : InputEvent}
        → DriverBreaks stored replay_output old.driver new.driver events event
        → Breaks stored old.driver.gateway.now gateway events event breaks
    replay_breaks broken = rw (same_gateway, same_writer) (Breaks-weaker broken (λ _ _ out. out.1))

    -- an answer is not written completely, at the line that the end of the script ends
    pub replay_breaks_at_end : {mid : LineSplitter (ReplayOutput W) S} {input : List ℕ}
        → (taken : TakesEndedLines stored replay_output ScriptLines old mid input)
        → BreaksAtLastEvent stored mid.driver.gateway.now new.driver.gateway.now (script taken.rest)
        (replay_output.breaks mid.driver.reply_sink new.driver.reply_sink)
        → BreaksAtLastEvent stored old.driver.gateway.now gateway (script input) breaks
    replay_breaks_at_end {mid} taken later =
        let events = events_by ScriptLines taken.ended in
        record {
          events = events ++ later.events;
          event = later.event;
          whole = script-lines taken ∙ ap (λ (more : List InputEvent). events ++ more) later.whole
              ∙ sym (append_assoc events later.events (later.event ∷ []));
          broken = replay_breaks (processes-break replay_output old.driver mid.driver new.driver taken.taken.processed
              later.broken);
        }

    -- a fault before the end of a script
    pub replay_ended_lines : {input : List ℕ} → TakesEndedLines stored replay_output ScriptLines old new input
        → ProcessesEndedLines stored old.driver.gateway.now gateway input puts
    replay_ended_lines taken =
        let ended = flat_map with_lf taken.ended in
        let events = events_by ScriptLines taken.ended in
        let is : script ended ≡ events =
        ap script (sym (append-nil ended)) ∙ events_in-ended ScriptLines taken.ended [] taken.each
        ∙ append-nil events in
        record {
          ended = ended;
          is = record {
            tail = taken.rest;
            whole = taken.whole;
            ends = flat_map-with_lf taken.ended;
            no_lf = taken.keeps.no_lf;
          };
          processed = rw is (replay_processes taken.taken.processed);
        }

    -- and a fault at one of its lines
    pub replay_breaks_at_line : {input : List ℕ} → BreaksInBytes stored replay_output ScriptLines old new input
        → BreaksAtEndedLine stored old.driver.gateway.now gateway input breaks
    replay_breaks_at_line broken =
        let ended = flat_map with_lf broken.ended in
        let events = events_by ScriptLines broken.ended in
        record {
          part = ended ++ broken.line;
          more = broken.more;
          whole = broken.whole ∙ sym (append_assoc ended broken.line (10 ∷ broken.more))
              ∙ sym (append_assoc (ended ++ broken.line) (10 ∷ []) broken.more);
          events = events;
          event = event_of_line_from ScriptLines (strip_carriage_return broken.line);
          is = ap script (append_assoc ended broken.line (10 ∷ []))
              ∙ events_in-ended ScriptLines broken.ended (broken.line ++ 10 ∷ []) broken.each
              ∙ ap (λ (more : List InputEvent). events ++ more)
              (events_in-first ScriptLines broken.line [] broken.no_lf);
          broken = replay_breaks broken.broken;
        }

-- ---- `live`

-- `gateway`, `serial` and `desk` are the values after the loans
module _ {R D S : Type 0} (stored : S → DeviceStoreState) (serial_sinks : sinks.Ghosts R) (desk_sinks : sinks.Ghosts D)
    (old new : Driver (LiveOutputs R D) S) (gateway : GatewayValue S) (serial : R) (desk : D)
    (same_gateway : gateway ≡ new.gateway.now) (same_serial : serial ≡ new.reply_sink.serial.now)
    (same_desk : desk ≡ new.reply_sink.desk.now) where
  abbrev live_output_borrowed : OutputSpec (LiveOutputs R D)
  live_output_borrowed = live_output_of serial_sinks desk_sinks

  abbrev output : OutputSpec (SinkValue × SinkValue)
  output = live_output old.reply_sink.explains

  abbrev old_sinks : SinkValue × SinkValue
  old_sinks = (sink_value serial_sinks old.reply_sink.serial.now, sink_value desk_sinks old.reply_sink.desk.now)

  abbrev new_sinks : SinkValue × SinkValue
  new_sinks = (sink_value serial_sinks serial, sink_value desk_sinks desk)

  pub live_processes : {events : List InputEvent} → DriverProcesses stored live_output_borrowed old new events
      → Processes stored old.gateway.now gateway events (output.puts old_sinks new_sinks)
  live_processes processed =
      rw (same_gateway, same_serial, same_desk) (Processes-weaker processed (λ _ out. out.1))

  pub live_breaks : {events : List InputEvent} {event : InputEvent}
      → DriverBreaks stored live_output_borrowed old new events event
      → Breaks stored old.gateway.now gateway events event (output.breaks old_sinks new_sinks)
  live_breaks broken =
      rw (same_gateway, same_serial, same_desk) (Breaks-weaker broken (λ _ _ out. out.1))

  pub live_breaks_at_order : {turns : List Turn}
      → BreaksAtOrder stored old.gateway.now new.gateway.now turns
      (live_output_borrowed.breaks old.reply_sink new.reply_sink)
      → BreaksAtOrder stored old.gateway.now gateway turns (output.breaks old_sinks new_sinks)
  live_breaks_at_order broken = record {
    earlier_turns = broken.earlier_turns;
    last = broken.last;
    is_last = broken.is_last;
    earlier_events = broken.earlier_events;
    order = broken.order;
    later_events = broken.later_events;
    whole = broken.whole;
    broken = live_breaks broken.broken;
  }

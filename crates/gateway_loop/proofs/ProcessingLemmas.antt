-- How a `Driver` continues with inputs and with events.
use Rattle.std.proofs.Common.{◌≡◌, ◌<◌, ◌^◌, List, [], ◌∷◌, ◌++◌, ap, sym, ◌∙◌, append_assoc, append-nil, arith}
use Rattle.std.proofs.Common.{length, length-append, refl}
use Rattle.learned_devices.specs.DeviceStoreState.{DeviceStoreState}
use Rattle.esp3_frames.specs.PacketsAndRest.{rest_of}
use Rattle.esp3_frames.proofs.ForCallers.{packets_and_rest-may_become}
use Rattle.gateway_core.specs.Step.{Input, Answer}
use Rattle.gateway_core.specs.Handling.{HandlerValue}
use Rattle.gateway_core.specs.Calls.{GatewayValue}
use Rattle.gateway_core.specs.Events.{InputEvent, inputs_of}
use Rattle.gateway_core.proofs.ForCallers.{saturated_sum-twice, handles-nothing, handles-append, inputs_of-more_events}
use Rattle.gateway_core.proofs.ForCallers.{rest_of-more_events}
use Rattle.gateway_loop.specs.declared.driver.Driver.{Driver}
use Rattle.gateway_loop.specs.OutputSpecs.{OutputSpec}
use Rattle.gateway_loop.specs.Processing.{AnswersInputs, Breaks, HasNoReadyPacket, LastAnswerCutShort, Processes}
use Rattle.gateway_loop.specs.private.DriverSteps.{DriverBreaks, DriverProcesses, Takes}

module _ {S : Type 0} {stored : S → DeviceStoreState} where
  -- what holds of the output may be weakened
  pub Processes-weaker : {old new : GatewayValue S} {events : List InputEvent} {puts others : List Answer → Type 0}
      → Processes stored old new events puts → ((answers : List Answer) → puts answers → others answers)
      → Processes stored old new events others
  Processes-weaker processed weaker =
      let answered = processed.answered in
      record {
        answered = record {
          answers = answered.answers;
          handled = answered.handled;
          out = weaker answered.answers answered.out;
        };
        rest = processed.rest;
        idle = processed.idle;
      }

  pub Breaks-weaker : {old new : GatewayValue S} {events : List InputEvent} {event : InputEvent}
      {breaks others : List Answer → Answer → Type 0}
      → Breaks stored old new events event breaks
      → ((answers : List Answer) (last : Answer) → breaks answers last → others answers last)
      → Breaks stored old new events event others
  Breaks-weaker broken weaker =
      let answered = broken.answered in
      record {
        begun_event = broken.begun_event;
        begun_is_prefix = broken.begun_is_prefix;
        inputs = broken.inputs;
        handled_of_begun_event = broken.handled_of_begun_event;
        inputs_are = broken.inputs_are;
        not_empty = broken.not_empty;
        ready_packets_are = broken.ready_packets_are;
        rest = broken.rest;
        answered = record {
          answers = answered.answers;
          last = answered.last;
          handled = answered.handled;
          out = weaker answered.answers answered.last answered.out;
        };
      }

module _ {S : Type 0} {stored : S → DeviceStoreState} {O : Type 0} (output : OutputSpec O) where
  -- ---- inputs

  pub answers-nothing : {handler : HandlerValue S} (sink : O)
      → AnswersInputs stored handler handler [] (output.puts sink sink)
  answers-nothing sink =
      record { answers = []; handled = handles-nothing stored _; out = output.puts_nothing sink }

  -- inputs that are answered one after another
  pub answers-append : {old mid new : HandlerValue S} {inputs more : List Input} (before between after : O)
      → AnswersInputs stored old mid inputs (output.puts before between)
      → AnswersInputs stored mid new more (output.puts between after)
      → AnswersInputs stored old new (inputs ++ more) (output.puts before after)
  answers-append before between after first second = record {
    answers = first.answers ++ second.answers;
    handled = handles-append stored _ _ _ _ _ first.answers second.answers first.handled second.handled;
    out = output.puts_join before between after first.answers second.answers first.out second.out;
  }

  -- whole answers, and then one that was not written completely
  pub answers-cut_short : {old mid new : HandlerValue S} {inputs more : List Input} (before between after : O)
      → AnswersInputs stored old mid inputs (output.puts before between)
      → LastAnswerCutShort stored mid new more (output.breaks between after)
      → LastAnswerCutShort stored old new (inputs ++ more) (output.breaks before after)
  answers-cut_short before between after first second = record {
    answers = first.answers ++ second.answers;
    last = second.last;
    handled = rw (append_assoc first.answers second.answers (second.last ∷ []))
        (handles-append stored _ _ _ _ _ first.answers (second.answers ++ second.last ∷ []) first.handled
        second.handled);
    out = output.breaks_join before between after first.answers second.answers second.last first.out second.out;
  }

  -- ---- events

  pub processes-nothing : (driver : Driver O S) → HasNoReadyPacket driver.gateway.now
      → DriverProcesses stored output driver driver []
  processes-nothing driver idle =
      let rest = driver.gateway.now.rest in
      record {
        answered = answers-nothing driver.reply_sink;
        rest = (packets_and_rest-may_become rest idle.rest).1 ∙ ap rest_of (sym (append-nil rest));
        idle = idle;
      }

  -- events that are processed one after another
  pub processes-append : (old mid new : Driver O S) {events more : List InputEvent}
      → DriverProcesses stored output old mid events → DriverProcesses stored output mid new more
      → DriverProcesses stored output old new (events ++ more)
  processes-append old mid new {events} {more} first second =
      let rest = old.gateway.now.rest in
      let after = mid.gateway.now.rest in
      record {
        answered = rw (inputs_of-more_events rest after events more first.rest)
            (answers-append old.reply_sink mid.reply_sink new.reply_sink first.answered second.answered);
        rest = second.rest ∙ rest_of-more_events rest after events more first.rest;
        idle = second.idle;
      }

  -- an answer is not written completely after some events
  pub processes-break : (old mid new : Driver O S) {events more : List InputEvent} {event : InputEvent}
      → DriverProcesses stored output old mid events → DriverBreaks stored output mid new more event
      → DriverBreaks stored output old new (events ++ more) event
  processes-break old mid new {events} {more} first second =
      let rest = old.gateway.now.rest in
      let after = mid.gateway.now.rest in
      let inputs = inputs_of rest events in
      let last = more ++ second.begun_event ∷ [] in
      let all : (events ++ more) ++ second.begun_event ∷ [] ≡ events ++ last =
      append_assoc events more (second.begun_event ∷ []) in
      record {
        begun_event = second.begun_event;
        begun_is_prefix = second.begun_is_prefix;
        inputs = inputs ++ second.inputs;
        handled_of_begun_event = second.handled_of_begun_event;
        inputs_are = rw (inputs_of-more_events rest after events more first.rest, append_assoc, ← second.inputs_are)
            refl;
        not_empty = second.not_empty;
        ready_packets_are = rw (
          all,
          inputs_of-more_events rest after events last first.rest,
          second.ready_packets_are,
          append_assoc,
        ) refl;
        rest = rw (all, ← rest_of-more_events rest after events last first.rest) second.rest;
        answered =
            answers-cut_short old.reply_sink mid.reply_sink new.reply_sink first.answered second.answered;
      }

  pub takes-nothing : (driver : Driver O S) → HasNoReadyPacket driver.gateway.now → driver.items < 2 ^ 64
      → Takes stored output driver driver []
  takes-nothing driver idle fits = record { processed = processes-nothing driver idle; counted = omega arith }

  -- events that are taken, and counted, one after another
  pub takes-append : {old mid new : Driver O S} {events more : List InputEvent} → Takes stored output old mid events
      → Takes stored output mid new more → Takes stored output old new (events ++ more)
  takes-append {old} {mid} {new} {events} {more} first second =
      let rest = old.gateway.now.rest in
      record {
        processed = processes-append old mid new first.processed second.processed;
        counted =
            rw (inputs_of-more_events rest mid.gateway.now.rest events more first.processed.rest, length-append)
            (saturated_sum-twice old.items mid.items new.items (length (inputs_of rest events)) _ first.counted
            second.counted);
      }

-- `replay` and `live` do what the headline specifies, for a new gateway.
use Rattle.std.proofs.lemmas.Grind.{common_steps}
use Rattle.std.proofs.Common.{arith, ◌≡◌, ◌⊎◌, ◌+◌, inl, inr, ℕ, Bool, List, [], ◌∷◌, ◌++◌, length, map, Option, Some}
use Rattle.std.proofs.Common.{None, Ok, Err, append-nil, append_assoc, refl, sym, ap, subst, ◌∙◌}
use Rattle.std.specs.List.{concat, flat_map}
use Rattle.std.proofs.lemmas.List.Concat.{flat_map-append}
use Rattle.learned_devices.specs.DeviceStoreState.{DeviceStoreState}
use Rattle.learned_devices.specs.Devices.{Devices}
use Rattle.gateway_core.specs.Step.{Input, Answer, Received, Ordered}
use Rattle.gateway_core.specs.CrashStates.{IsCrashConsistent, nothing_committed_yet, crash_states}
use Rattle.gateway_core.specs.Sessions.{Session, initial_state}
use Rattle.gateway_core.specs.Handling.{HandlerValue, Handles, HasState}
use Rattle.gateway_core.specs.Calls.{GatewayValue}
use Rattle.gateway_core.specs.Events.{InputEvent, Chunk, Line, bytes_in, inputs_of}
use Rattle.gateway_core.proofs.ForCallers.{inputs_of-append, sessions_leave_prefixes, crash_consistent-weaker}
use Rattle.byte_io.specs.Streams.{SourceValue, sink_value, source_value}
use Rattle.byte_io.specs.Writes.{Adds, WritesPart}
use Rattle.byte_io.specs.declared.sink.Sink as sinks
use Rattle.byte_io.specs.declared.source.Source as sources
use Rattle.gateway_loop.specs.declared.run_result.RunFault.{RunFault}
use Rattle.gateway_loop.specs.declared.run_result.RunFault.TheVariants.{Read, Write, TooManyTurns}
use Rattle.gateway_loop.specs.declared.run_result.Summary.{Summary}
use Rattle.gateway_loop.specs.Headline.{AreWholeLines, AsSpecified, BrokenOff, IsNew, IsPrefix, ReplaysAsSpecified}
use Rattle.gateway_loop.specs.Headline.{ServesAsSpecified, all_desk_text, all_radio_bytes}
use Rattle.gateway_loop.specs.LiveGateway.{BreaksTurn, Serves, ServesUntilFault, ServesUntilReadFails}
use Rattle.gateway_loop.specs.LiveGateway.{ServesUntilWriteFails, LiveValue, NextReadFails, events_and_chunk}
use Rattle.gateway_loop.specs.LiveGateway.{live_value, serial_reads_and_chunk}
use Rattle.gateway_loop.specs.Processing.{Breaks, IsWholeOrChunkPrefix}
use Rattle.gateway_loop.specs.Script.{script, with_lf}
use Rattle.gateway_loop.specs.ScriptReplay.{Replays, ReplaysEndedLines, ReplaysUntilFault, replay_value}
use Rattle.gateway_loop.specs.Reads.{AllReadsSucceed, OnlyLastMayFail}
use Rattle.gateway_loop.specs.Turns.{Turn, desk_reads, events_of_turns, serial_reads, turns_of}
use Rattle.gateway_loop.specs.LiveOutputs.{radio_bytes, live_output}
use Rattle.gateway_loop.specs.Written.{AppendsCutReplayText, desk_text, text_of, written}
use Rattle.gateway_loop.proofs.ChunkLemmas.{inputs_of-parts}
use Rattle.gateway_loop.proofs.TurnLemmas.{events_of_turns-chunk, length-desk_reads, length-serial_reads}

-- ---- prefixes

IsPrefix-whole : (bytes : List ℕ) → IsPrefix bytes bytes
IsPrefix-whole bytes = record { rest = []; whole = sym (append-nil bytes) }

-- the texts of some answers, and a part of that of one more
IsPrefix-cut_short : (says : Answer → List ℕ) (answers : List Answer) (last : Answer) (part missing : List ℕ)
    → says last ≡ part ++ missing
    → IsPrefix (flat_map says answers ++ part) (flat_map says (answers ++ last ∷ []))
IsPrefix-cut_short says answers last part missing whole = grind (arith, common_steps)

-- ---- turns

turns_of-reads : (read : List Turn) → turns_of (serial_reads read) (desk_reads read) ≡ read
turns_of-reads [] = refl
turns_of-reads (turn ∷ read) = ap (λ (turns : List Turn). turn ∷ turns) (turns_of-reads read)

-- and a turn in which only the chunk was read
turns_of-chunk : (read : List Turn) (chunk : List ℕ)
    → turns_of (serial_reads read ++ chunk ∷ []) (desk_reads read) ≡ read ++ record { chunk = chunk; desk = [] } ∷ []
turns_of-chunk [] chunk = refl
turns_of-chunk (turn ∷ read) chunk = ap (λ (turns : List Turn). turn ∷ turns) (turns_of-chunk read chunk)

events_of_turns-reads : (read : List Turn) (chunk : Option (List ℕ))
    → events_of_turns (turns_of (serial_reads_and_chunk read chunk) (desk_reads read)) ≡ events_and_chunk read chunk
events_of_turns-reads read None = ap events_of_turns (turns_of-reads read)
events_of_turns-reads read (Some chunk) =
    ap events_of_turns (turns_of-chunk read chunk) ∙ events_of_turns-chunk read chunk

reads_alternate : (read : List Turn) (chunk : Option (List ℕ))
    → (length (serial_reads_and_chunk read chunk) ≡ length (desk_reads read))
    ⊎ (length (serial_reads_and_chunk read chunk) ≡ length (desk_reads read) + 1)
reads_alternate read None = inl (length-serial_reads read ∙ sym (length-desk_reads read))
reads_alternate read (Some chunk) = grind (arith, common_steps)

-- ---- inputs

-- an event that was begun brings the first of its inputs
inputs_of-begun : (stream : List ℕ) (event begun : InputEvent) (later : List InputEvent)
    → IsWholeOrChunkPrefix event begun
    → (more : List Input) × (inputs_of stream (event ∷ later) ≡ inputs_of stream (begun ∷ []) ++ more)
inputs_of-begun stream (Chunk bytes) (Chunk run) later (rest, is) = (
  inputs_of (stream ++ bytes_in (Chunk run ∷ [])) (Chunk rest ∷ later),
  ap (λ b. inputs_of stream (Chunk b ∷ later)) is ∙ inputs_of-parts stream run rest later
      ∙ inputs_of-append stream (Chunk run ∷ []) (Chunk rest ∷ later),
)
inputs_of-begun stream (Line line) (Line other) later is =
    (inputs_of stream later, ap (λ l. Ordered l ∷ inputs_of stream later) (sym is))
inputs_of-begun stream (Chunk bytes) (Line other) later never = absurd never
inputs_of-begun stream (Line line) (Chunk run) later never = absurd never

module _ {S : Type 0} {state : S → DeviceStoreState} where
  -- a prefix of the inputs of some events was handled, if an answer to one of them was not written completely
  inputs_of-broken : {old new : GatewayValue S} {events : List InputEvent} {event : InputEvent}
      {breaks : List Answer → Answer → Type 0} (later : List InputEvent)
      → (broken : Breaks state old new events event breaks)
      → (more : List Input) × (inputs_of old.rest (events ++ event ∷ later) ≡ broken.inputs ++ more)
  inputs_of-broken {old} {new} {events} {event} later broken =
      let stream = old.rest ++ bytes_in events in
      let earlier = inputs_of old.rest events in
      let begun = broken.begun_event in
      let ready = map Received new.ready in
      let (more, is) = inputs_of-begun stream event begun later broken.begun_is_prefix in (
        ready ++ more,
        inputs_of-append old.rest events (event ∷ later) ∙ ap (λ inputs. earlier ++ inputs) is
            ∙ sym (append_assoc earlier (inputs_of stream (begun ∷ [])) more)
            ∙ ap (λ inputs. inputs ++ more)
            (sym (inputs_of-append old.rest events (begun ∷ [])) ∙ broken.ready_packets_are)
            ∙ append_assoc broken.inputs ready more,
      )

  -- ---- a new gateway

  module _ {base : ℕ} {found : Devices} {old : GatewayValue S} (began : IsNew state base found old) where
    begins_at : HasState state old.handler (initial_state base found)
    begins_at = grind (arith, common_steps)

    specified : {new : HandlerValue S} {inputs : List Input} {answers : List Answer} (out : List Answer → Type 0)
        → (state new.registry).honest → Handles state old.handler inputs answers new → out answers
        → AsSpecified state base found inputs out new
    specified {new} {inputs} {answers} out honest handled is_out =
        let ran = handled.ran_from_any honest (initial_state base found) begins_at in
        record {
          results = ran.results;
          answers = answers;
          last = ran.last;
          run = ran.run;
          are_out = is_out;
          has_last_state = ran.at;
          reopenable = handled.reopenable honest began.reopenable;
          crash_leaves_prefix = λ left may_recover.
              let session : Session = record {
                base = base;
                found = found;
                inputs = inputs;
                results = ran.results;
                answers = answers;
                last = ran.last;
                interrupted_input = None;
                left = left;
              } in
              let safe : IsCrashConsistent (λ devices. devices ≡ found)
              (crash_states nothing_committed_yet (initial_state base found) inputs ran.results) left =
              crash_consistent-weaker (state old.handler.registry).may_recover (λ devices. devices ≡ found)
              began.crash_leaves_found _ left (ran.crash left may_recover) in
              elim (sessions_leave_prefixes session (record { run = ran.run; safe = safe })) [
                | inl is ↦ is
                | inr never ↦ absurd never
              ];
        }

    no_rest : old.rest ≡ []
    no_rest = ap (λ (gateway : GatewayValue S). gateway.rest) began.value

    -- the inputs of these events
    specified_events : {new : HandlerValue S} (events : List InputEvent) {answers : List Answer}
        (out : List Answer → Type 0)
        → (state new.registry).honest → Handles state old.handler (inputs_of old.rest events) answers new → out answers
        → AsSpecified state base found (inputs_of [] events) out new
    specified_events {new} events out honest handled is_out =
        subst (λ stream. AsSpecified state base found (inputs_of stream events) out new) no_rest
        (specified out honest handled is_out)

    -- the first of the inputs of these events, and no other
    broken_off : {new : HandlerValue S} (events : List InputEvent) {handled : List Input} (later : List Input)
        {answers : List Answer} (out : List Answer → Type 0)
        → (state new.registry).honest → inputs_of old.rest events ≡ handled ++ later
        → Handles state old.handler handled answers new → out answers
        → BrokenOff state base found (inputs_of [] events) out new
    broken_off events {handled} later out honest whole handles is_out = record {
      handled = handled;
      later = later;
      whole = ap (λ stream. inputs_of stream events) (sym no_rest) ∙ whole;
      specified = specified out honest handles is_out;
    }

  -- ---- `replay`

  module _ {R W : Type 0} (source : sources.Ghosts R) (sink : sinks.Ghosts W) {explains : Bool}
      {old new : GatewayValue S × R × W} where
    pub replayed : {summary : Summary} → Replays state (replay_value source sink) explains old new summary
        → ReplaysAsSpecified state source sink explains (Ok summary) old new
    replayed done base found began honest =
        let answered = done.processed.answered in
        record {
          reads = done.reads;
          text = written explains answered.answers;
          text_is_added = (answered.out.writes, answered.out.accepts);
          specified = (
            done.read,
            done.ends,
            done.at_end,
            specified_events began (script (concat done.reads)) _ honest answered.handled refl,
          );
        }

    -- some lines that LF ended, and perhaps the beginning of one more
    ended_lines_replayed : (fault : RunFault) {ReadAs : (old new : SourceValue) (reads : List (List ℕ)) → Type 0}
        → (done : ReplaysEndedLines state (replay_value source sink) explains ReadAs old new)
        → OnlyLastMayFail (source_value source old.1) (source_value source new.1) done.reads
        → ReplaysAsSpecified state source sink explains (Err fault) old new
    ended_lines_replayed fault done read base found began honest =
        let lines = done.processed in
        let answered = lines.processed.answered in
        let text = written explains answered.answers in
        record {
          reads = done.reads;
          text = text;
          text_is_added = (answered.out.writes, answered.out.accepts);
          specified = (
            read,
            lines.ended,
            inl (lines.is.tail, lines.is.whole, lines.is.ends),
            broken_off began (script lines.ended) [] _ honest (sym (append-nil _)) answered.handled
                (IsPrefix-whole text),
          );
        }

    -- an answer to an input of the last event of these lines
    event_broken : {reads : List (List ℕ)} (lines : List ℕ) {events : List InputEvent} {event : InputEvent}
        → AllReadsSucceed (source_value source old.1) (source_value source new.1) reads → AreWholeLines reads lines
        → Breaks state old.0 new.0 events event
        (AppendsCutReplayText explains (sink_value sink old.2) (sink_value sink new.2))
        → script lines ≡ events ++ event ∷ []
        → ReplaysAsSpecified state source sink explains (Err Write) old new
    event_broken {reads} lines read whole_lines broken whole base found began honest =
        let answered = broken.answered in
        let part : WritesPart (sink_value sink old.2) (sink_value sink new.2) (written explains answered.answers)
        (text_of explains answered.last) = answered.out in
        let (later, inputs) = inputs_of-broken [] broken in
        record {
          reads = reads;
          text = written explains answered.answers ++ part.part;
          text_is_added = (part.earlier ++ part.last ∷ [], part.accepts);
          specified = (
            inl read,
            lines,
            whole_lines,
            broken_off began (script lines) later _ honest (ap (inputs_of old.0.rest) whole ∙ inputs) answered.handled
                (IsPrefix-cut_short (text_of explains) answered.answers answered.last part.part part.unwritten
                part.whole),
          );
        }

    pub replayed_until : (fault : RunFault) → ReplaysUntilFault state (replay_value source sink) explains old new fault
        → ReplaysAsSpecified state source sink explains (Err fault) old new
    replayed_until Read done = ended_lines_replayed Read done (inr done.read)
    replayed_until TooManyTurns done = ended_lines_replayed TooManyTurns done (inl done.read)
    replayed_until Write done = elim done.broken [
      | inl at_line ↦
          let line = at_line.broken in
          event_broken (with_lf line.part) done.read (inl (line.more, line.whole, inr (line.part, refl))) line.broken
          line.is
      | inr at_end ↦
          let end = at_end.broken in
          event_broken (concat done.reads) done.read (inr (at_end.ends, refl)) end.broken end.whole
    ]

-- ---- `live`

module _ {S P Q R D : Type 0} (state : S → DeviceStoreState) (serial_in : sources.Ghosts P)
    (desk_in : sources.Ghosts Q) (serial_out : sinks.Ghosts R) (desk_out : sinks.Ghosts D) (explains : Bool)
    (old new : GatewayValue S × P × Q × R × D) where
  abbrev at : GatewayValue S × P × Q × R × D → LiveValue S
  at = live_value serial_in desk_in serial_out desk_out

  pub served : {count : ℕ} {summary : Summary} → Serves state at explains old new count summary
      → ServesAsSpecified state serial_in desk_in serial_out desk_out explains (Ok summary) old new count
  served done base found began honest =
      let answered = done.processed.answered in
      let radio = all_radio_bytes answered.answers in
      let desk = all_desk_text explains answered.answers in
      record {
        serial = serial_reads done.read;
        desk = desk_reads done.read;
        alternate = reads_alternate done.read None;
        radio_written = radio;
        desk_written = desk;
        radio_is_added = (answered.out.0.writes, answered.out.0.accepts);
        desk_is_added = (answered.out.1.writes, answered.out.1.accepts);
        specified = (
          done.serial,
          done.desk,
          length-serial_reads done.read ∙ done.count,
          length-desk_reads done.read ∙ done.count,
          rw (events_of_turns-reads done.read None)
              (specified_events began (events_of_turns done.read) _ honest answered.handled (refl, refl)),
        );
      }

  -- what was read of the two sources before a fault
  abbrev ReadUntilFault : List Turn → Option (List ℕ) → Type 0
  ReadUntilFault read chunk =
      OnlyLastMayFail (source_value serial_in old.1) (source_value serial_in new.1)
      (serial_reads_and_chunk read chunk)
      × OnlyLastMayFail (source_value desk_in old.2) (source_value desk_in new.2) (desk_reads read)

  -- what was written to the two sinks: at most the beginning of the last answer
  record WrittenUntilFault (answers : List Answer) : Type 0 where
    radio : List ℕ
    desk : List ℕ
    radio_is_added : Adds (sink_value serial_out old.3) (sink_value serial_out new.3) radio
    desk_is_added : Adds (sink_value desk_out old.4) (sink_value desk_out new.4) desk
    radio_is : IsPrefix radio (all_radio_bytes answers)
    desk_is : IsPrefix desk (all_desk_text explains answers)

  written_until_fault : (answers : List Answer) (last : Answer)
      → (live_output explains).breaks (at old).serial_and_desk_sinks (at new).serial_and_desk_sinks answers last
      → WrittenUntilFault (answers ++ last ∷ [])
  written_until_fault answers last (inl (radio, desk)) = record {
    radio = all_radio_bytes answers ++ radio.part;
    desk = all_desk_text explains answers;
    radio_is_added = (radio.earlier ++ radio.last ∷ [], radio.accepts);
    desk_is_added = (desk.writes, desk.accepts);
    radio_is = IsPrefix-cut_short (λ answer. radio_bytes answer.radio) answers last radio.part radio.unwritten
        radio.whole;
    desk_is = record { rest = _; whole = flat_map-append (desk_text explains) answers (last ∷ []) };
  }
  written_until_fault answers last (inr (radio, desk)) = grind (arith, common_steps)

  -- the first of the inputs of these turns were handled with these answers
  served_first : (fault : RunFault) {count : ℕ} (read : List Turn) (chunk : Option (List ℕ)) {handled : List Input}
      (later : List Input) {answers : List Answer}
      → ReadUntilFault read chunk → inputs_of old.0.rest (events_and_chunk read chunk) ≡ handled ++ later
      → Handles state old.0.handler handled answers new.0.handler → WrittenUntilFault answers
      → ServesAsSpecified state serial_in desk_in serial_out desk_out explains (Err fault) old new count
  served_first fault read chunk later are_read whole handled out base found began honest = record {
    serial = serial_reads_and_chunk read chunk;
    desk = desk_reads read;
    alternate = reads_alternate read chunk;
    radio_written = out.radio;
    desk_written = out.desk;
    radio_is_added = out.radio_is_added;
    desk_is_added = out.desk_is_added;
    specified = (
      are_read.0,
      are_read.1,
      rw (events_of_turns-reads read chunk)
          (broken_off began (events_and_chunk read chunk) later _ honest whole handled (out.radio_is, out.desk_is)),
    );
  }

  served_until_read : {count : ℕ} → ServesUntilReadFails state at explains old new
      → ServesAsSpecified state serial_in desk_in serial_out desk_out explains (Err Read) old new count
  served_until_read done =
      let answered = done.processed.answered in
      served_first Read done.read done.chunk [] (are_read done.chunk done.fails) (sym (append-nil _))
      answered.handled (record {
        radio = all_radio_bytes answered.answers;
        desk = all_desk_text explains answered.answers;
        radio_is_added = (answered.out.0.writes, answered.out.0.accepts);
        desk_is_added = (answered.out.1.writes, answered.out.1.accepts);
        radio_is = IsPrefix-whole _;
        desk_is = IsPrefix-whole _;
      })
    where
      are_read : (chunk : Option (List ℕ)) → NextReadFails (at old) (at new) done.read chunk
          → ReadUntilFault done.read chunk
      are_read None fails = (inr fails.0, inl fails.1)
      are_read (Some chunk) fails = (inl fails.0, inr fails.1)

  served_until_write : {count : ℕ} → ServesUntilWriteFails state at explains old new
      → ServesAsSpecified state serial_in desk_in serial_out desk_out explains (Err Write) old new count
  served_until_write {count} done = broken_turn done.chunk done.serial done.broken
    where
      breaks : List Answer → Answer → Type 0
      breaks = (live_output explains).breaks (at old).serial_and_desk_sinks (at new).serial_and_desk_sinks

      broken_event : (chunk : Option (List ℕ)) {events : List InputEvent} {event : InputEvent}
          (later : List InputEvent)
          → ReadUntilFault done.read chunk → events_and_chunk done.read chunk ≡ events ++ event ∷ later
          → Breaks state old.0 new.0 events event breaks
          → ServesAsSpecified state serial_in desk_in serial_out desk_out explains (Err Write) old new count
      broken_event chunk later are_read whole broken =
          let answered = broken.answered in
          let (more, inputs) = inputs_of-broken later broken in
          served_first Write done.read chunk more are_read (ap (inputs_of old.0.rest) whole ∙ inputs)
          answered.handled (written_until_fault answered.answers answered.last answered.out)

      broken_turn : (chunk : Option (List ℕ))
          → AllReadsSucceed (source_value serial_in old.1) (source_value serial_in new.1)
          (serial_reads_and_chunk done.read chunk)
          → BreaksTurn state old.0 new.0 done.read chunk breaks
          → ServesAsSpecified state serial_in desk_in serial_out desk_out explains (Err Write) old new count
      broken_turn None serial broken =
          broken_event None broken.later_events (inl serial, inl done.desk) broken.whole broken.broken
      broken_turn (Some chunk) serial broken =
          broken_event (Some chunk) [] (inl serial, inl done.desk) refl broken

  pub served_until : {count : ℕ} (fault : RunFault) → ServesUntilFault state at explains old new fault
      → ServesAsSpecified state serial_in desk_in serial_out desk_out explains (Err fault) old new count
  served_until Read done = served_until_read done
  served_until Write done = served_until_write done
  served_until TooManyTurns never = absurd never

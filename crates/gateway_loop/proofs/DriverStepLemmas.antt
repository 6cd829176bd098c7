-- How packets, chunks and orders are taken.
use Rattle.std.proofs.lemmas.Grind.{common_steps}
use Rattle.std.proofs.Common.{◌≡◌, ℕ, ◌^◌, ◌<◌, List, [], ◌∷◌, ◌++◌, length, refl, ap, sym, subst, ◌∙◌, append_assoc}
use Rattle.std.proofs.Common.{append-nil, arith, length-append, map, Some}
use Rattle.std.proofs.lemmas.List.{map-append, length-map}
use Rattle.learned_devices.specs.DeviceStoreState.{DeviceStoreState}
use Rattle.esp3_frames.specs.Packet.{Packet}
use Rattle.esp3_frames.specs.PacketsAndRest.{packets_in, rest_of}
use Rattle.esp3_frames.specs.Framing.{MayBecomePacket}
use Rattle.esp3_frames.proofs.ForCallers.{packets_and_rest-may_become}
use Rattle.gateway_core.specs.Step.{Input, Received, Ordered, Answer}
use Rattle.gateway_core.specs.Handling.{HandlerValue}
use Rattle.gateway_core.specs.Calls.{GatewayValue, Transition, Next, Bytes, Order}
use Rattle.gateway_core.specs.Events.{InputEvent, Chunk, Line, inputs_of}
use Rattle.gateway_core.proofs.ForCallers.{new_packets-rest, rest_of-may_become_packet, inputs_of-more_events}
use Rattle.gateway_core.proofs.ForCallers.{rest_of-more_events, saturated_sum-twice}
use Rattle.gateway_state.specs.Counts.{saturated_sum}
use Rattle.gateway_loop.specs.OutputSpecs.{OutputSpec}
use Rattle.gateway_loop.specs.declared.driver.Driver.{Driver}
use Rattle.gateway_loop.specs.Processing.{HasNoReadyPacket, IsWholeOrChunkPrefix, AnswersInputs, LastAnswerCutShort}
use Rattle.gateway_loop.specs.private.DriverSteps.{Drains, DrainsPart, DriverBreaks, Takes}
use Rattle.gateway_loop.proofs.ChunkLemmas.{inputs_of-parts}
use Rattle.gateway_loop.proofs.ProcessingLemmas.{answers-nothing, answers-append, answers-cut_short, processes-append}

-- the packets that a chunk completes after a rest
inputs_of-chunk : (rest bytes : List ℕ) {ready : List Packet} → MayBecomePacket rest
    → ready ≡ packets_in (rest ++ bytes) → inputs_of rest (Chunk bytes ∷ []) ≡ map Received ready
inputs_of-chunk rest bytes live is =
    append-nil (map Received _) ∙ ap (λ (packets : List Packet). map Received packets)
    (new_packets-rest rest bytes ∙ ap (λ r. packets_in (r ++ bytes)) (sym (packets_and_rest-may_become rest live).1)
    ∙ sym is)

-- a prefix of a chunk is a chunk
begun-chunk : (chunk : List ℕ) (begun : InputEvent) → IsWholeOrChunkPrefix (Chunk chunk) begun
    → (run : List ℕ) × (begun ≡ Chunk run) × (later : List ℕ) × (chunk ≡ run ++ later)
begun-chunk chunk begun begins = grind (arith, common_steps)

module _ {S : Type 0} {stored : S → DeviceStoreState} {O : Type 0} (output : OutputSpec O) where
  -- ---- the ready packets

  pub drains-nothing : (gateway : GatewayValue S) (sink : O) (count : ℕ) → count < 2 ^ 64
      → Drains stored gateway gateway (output.puts sink sink) count count
  drains-nothing gateway sink count fits = record {
    packets = [];
    ready = refl;
    rest = refl;
    answered = answers-nothing output sink;
    counted = omega arith;
  }

  -- one more packet is handled, and its answer written
  pub drains-packet : {old mid new : GatewayValue S} {answer : Answer} {count some total : ℕ} (before between after : O)
      → Drains stored old mid (output.puts before between) count some
      → Transition stored mid (Next (Some answer)) new → output.puts between after (answer ∷ [])
      → total ≡ saturated_sum some 1 → Drains stored old new (output.puts before after) count total
  drains-packet {answer = answer} before between after drained (packet, first, rest, handled) out counted = record {
    packets = drained.packets ++ packet ∷ [];
    ready = rw (append_assoc, ← first) drained.ready;
    rest = rest ∙ drained.rest;
    answered = rw (map-append Received drained.packets (packet ∷ []))
        (answers-append output before between after drained.answered
        (record { answers = answer ∷ []; handled = handled; out = out }));
    counted = rw (length-append drained.packets (packet ∷ []))
        (saturated_sum-twice _ _ _ (length drained.packets) 1 drained.counted counted);
  }

  -- and its answer is not written completely
  pub drains_part-packet : {old mid new : GatewayValue S} {answer : Answer} {count some : ℕ} (before between after : O)
      → Drains stored old mid (output.puts before between) count some
      → Transition stored mid (Next (Some answer)) new → output.breaks between after [] answer
      → DrainsPart stored old new (output.breaks before after)
  drains_part-packet {answer = answer} before between after drained (packet, first, rest, handled) out = record {
    packets = drained.packets ++ packet ∷ [];
    not_empty = omega (arith, length-append drained.packets (packet ∷ []));
    ready = rw (append_assoc, ← first) drained.ready;
    rest = rest ∙ drained.rest;
    answered = rw (map-append Received drained.packets (packet ∷ []))
        (answers-cut_short output before between after drained.answered
        (record { answers = []; last = answer; handled = handled; out = out }));
  }

  -- ---- a chunk

  -- a run of bytes, and the packets that it completes
  pub takes-run : (old new : Driver O S) {mid : GatewayValue S} {run : List ℕ} → HasNoReadyPacket old.gateway.now
      → Transition stored old.gateway.now (Bytes run) mid → new.gateway.now.ready ≡ []
      → Drains stored mid new.gateway.now (output.puts old.reply_sink new.reply_sink) old.items new.items
      → Takes stored output old new (Chunk run ∷ [])
  takes-run old new {run = run} idle moved none drained =
      let rest = old.gateway.now.rest in
      let handler = new.gateway.now.handler in
      let all : inputs_of rest (Chunk run ∷ []) ≡ map Received drained.packets =
      inputs_of-chunk rest run idle.rest moved.2
      ∙ ap (λ (packets : List Packet). map Received packets) (rw (none, append-nil) at drained.ready) in
      let rest_is : new.gateway.now.rest ≡ rest_of (rest ++ run) = drained.rest ∙ moved.3 in
      record {
        processed = record {
          answered = rw all (subst (λ (start : HandlerValue S).
              AnswersInputs stored start handler (map Received drained.packets)
              (output.puts old.reply_sink new.reply_sink)) moved.1 drained.answered);
          rest = rw append-nil rest_is;
          idle = record { ready = none; rest = rw rest_is (rest_of-may_become_packet (rest ++ run)) };
        };
        counted = rw (all, length-map) drained.counted;
      }

  -- the start of a chunk
  pub takes-no_bytes : (driver : Driver O S) → HasNoReadyPacket driver.gateway.now → driver.items < 2 ^ 64
      → Takes stored output driver driver (Chunk [] ∷ [])
  takes-no_bytes driver idle fits =
      let gateway = driver.gateway.now in
      let nothing = packets_and_rest-may_become gateway.rest idle.rest in
      takes-run driver driver idle (idle.ready, refl, rw append-nil (idle.ready ∙ nothing.0), rw append-nil nothing.1)
      idle.ready (drains-nothing gateway driver.reply_sink driver.items fits)

  -- a chunk in two parts
  pub takes-chunks : {old mid new : Driver O S} {bytes run : List ℕ} → Takes stored output old mid (Chunk bytes ∷ [])
      → Takes stored output mid new (Chunk run ∷ []) → Takes stored output old new (Chunk (bytes ++ run) ∷ [])
  takes-chunks {old} {mid} {new} {bytes} {run} first second =
      let rest = old.gateway.now.rest in
      let after = mid.gateway.now.rest in
      let joined = processes-append output old mid new first.processed second.processed in
      let parts = inputs_of-parts rest bytes run [] in
      record {
        processed = record {
          answered = rw parts joined.answered;
          rest = rw append_assoc joined.rest;
          idle = joined.idle;
        };
        counted =
            rw (
              parts,
              inputs_of-more_events rest after (Chunk bytes ∷ []) (Chunk run ∷ []) first.processed.rest,
              length-append,
            )
            (saturated_sum-twice old.items mid.items new.items _ (length (inputs_of after (Chunk run ∷ [])))
            first.counted
            second.counted);
      }

  -- an answer is not written completely, at the packets of a run of bytes
  pub breaks-run : (old new : Driver O S) {mid : GatewayValue S} (run later : List ℕ) {chunk : List ℕ}
      → HasNoReadyPacket old.gateway.now → Transition stored old.gateway.now (Bytes run) mid
      → DrainsPart stored mid new.gateway.now (output.breaks old.reply_sink new.reply_sink)
      → chunk ≡ run ++ later → DriverBreaks stored output old new [] (Chunk chunk)
  breaks-run old new run later idle moved drained whole =
      let handler = new.gateway.now.handler in
      let inputs = map Received drained.packets in
      record {
        begun_event = Chunk run;
        begun_is_prefix = (later, whole);
        inputs = inputs;
        handled_of_begun_event = inputs;
        inputs_are = refl;
        not_empty = rw length-map drained.not_empty;
        ready_packets_are = inputs_of-chunk old.gateway.now.rest run idle.rest moved.2
            ∙ ap (λ (packets : List Packet). map Received packets) drained.ready
            ∙ map-append Received drained.packets new.gateway.now.ready;
        rest = rw append-nil (drained.rest ∙ moved.3);
        answered = subst (λ (start : HandlerValue S).
            LastAnswerCutShort stored start handler inputs (output.breaks old.reply_sink new.reply_sink)) moved.1
            drained.answered;
      }

  -- an answer is not written completely, in the second part of a chunk
  pub breaks-chunks : {old mid : Driver O S} (new : Driver O S) {bytes more : List ℕ}
      → Takes stored output old mid (Chunk bytes ∷ []) → DriverBreaks stored output mid new [] (Chunk more)
      → DriverBreaks stored output old new [] (Chunk (bytes ++ more))
  breaks-chunks {old} {mid} new {bytes} {more} first broken =
      let rest = old.gateway.now.rest in
      let after = mid.gateway.now.rest in
      let inputs = inputs_of rest (Chunk bytes ∷ []) in
      let (run, is_run, later, whole) = begun-chunk more broken.begun_event broken.begun_is_prefix in
      record {
        begun_event = Chunk (bytes ++ run);
        begun_is_prefix = (later, ap (λ b. bytes ++ b) whole ∙ sym (append_assoc bytes run later));
        inputs = inputs ++ broken.inputs;
        handled_of_begun_event = inputs ++ broken.inputs;
        inputs_are = refl;
        not_empty =
            let some = broken.not_empty in
            omega (
              arith,
              some,
              ap (λ (is : List Input). length is) broken.inputs_are,
              length-append inputs broken.inputs,
            );
        ready_packets_are = inputs_of-parts rest bytes run []
            ∙ inputs_of-more_events rest after (Chunk bytes ∷ []) (Chunk run ∷ []) first.processed.rest
            ∙ ap (λ (is : List Input). inputs ++ is) (rw is_run at broken.ready_packets_are)
            ∙ sym (append_assoc inputs broken.inputs (map Received new.gateway.now.ready));
        rest = rw is_run at broken.rest
            ∙ rest_of-more_events rest after (Chunk bytes ∷ []) (Chunk run ∷ []) first.processed.rest
            ∙ ap (λ b. rest_of (rest ++ b)) (sym (append_assoc bytes run []));
        answered = answers-cut_short output old.reply_sink mid.reply_sink new.reply_sink first.processed.answered
            broken.answered;
      }

  -- ---- an order

  -- an order, and its answer
  pub takes-order : (old new : Driver O S) {line : List ℕ} {answer : Answer} → HasNoReadyPacket old.gateway.now
      → Transition stored old.gateway.now (Order line answer) new.gateway.now
      → output.puts old.reply_sink new.reply_sink (answer ∷ []) → new.items ≡ saturated_sum old.items 1
      → Takes stored output old new (Line line ∷ [])
  takes-order old new {answer = answer} idle (ready, rest, handled) out counted = record {
    processed = record {
      answered = record { answers = answer ∷ []; handled = handled; out = out };
      rest = rw append-nil (rest ∙ (packets_and_rest-may_become old.gateway.now.rest idle.rest).1);
      idle = record { ready = ready ∙ idle.ready; rest = rw rest idle.rest };
    };
    counted = counted;
  }

  -- an order, and an answer that is not written completely
  pub breaks-order : (old new : Driver O S) {line : List ℕ} {answer : Answer} → HasNoReadyPacket old.gateway.now
      → Transition stored old.gateway.now (Order line answer) new.gateway.now
      → output.breaks old.reply_sink new.reply_sink [] answer → DriverBreaks stored output old new [] (Line line)
  breaks-order old new {line} {answer} idle (ready, rest, handled) out = record {
    begun_event = Line line;
    begun_is_prefix = refl;
    inputs = Ordered line ∷ [];
    handled_of_begun_event = Ordered line ∷ [];
    inputs_are = refl;
    not_empty = omega arith;
    ready_packets_are = rw (ready, idle.ready) refl;
    rest = rw append-nil (rest ∙ (packets_and_rest-may_become old.gateway.now.rest idle.rest).1);
    answered = record { answers = []; last = answer; handled = handled; out = out };
  }

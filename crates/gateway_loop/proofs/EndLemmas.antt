-- The postconditions of `replay` and `live` at each of their ends.
use Rattle.std.proofs.lemmas.Grind.{common_steps}
use Rattle.std.proofs.Common.{◌≡◌, ℕ, ◌+◌, ◌<◌, ◌≤◌, List, [], ◌∷◌, ◌++◌, Bool, length, map, ap, refl, ◌∙◌, inl, inr}
use Rattle.std.proofs.Common.{Option, None, Some, Result, Ok, Err, arith}
use Rattle.std.specs.Prelude.{IfErr, IfOk, IsSome}
use Rattle.std.proofs.lemmas.List.{length-map, map-append, append_cancel_left}
use Rattle.std.proofs.lemmas.List.Elements.{All-map, All-head, All-tail}
use Rattle.learned_devices.specs.DeviceStoreState.{DeviceStoreState}
use Rattle.gateway_core.specs.Step.{Answer}
use Rattle.gateway_core.specs.Calls.{GatewayValue}
use Rattle.byte_io.specs.Streams.{SourceValue, SinkValue}
use Rattle.byte_io.specs.Transfers.{EachIs, MovesBytes, MovesNothing, Transfer}
use Rattle.byte_io.specs.declared.sink.Sink as sinks
use Rattle.byte_io.specs.declared.source.Source as sources
use Rattle.gateway_loop.specs.declared.run_result.RunFault.{RunFault}
use Rattle.gateway_loop.specs.declared.run_result.RunFault.TheVariants.{Read, Write, TooManyTurns}
use Rattle.gateway_loop.specs.declared.run_result.Summary.{Summary}
use Rattle.gateway_loop.specs.Headline.{ReplaysAsSpecified, ServesAsSpecified}
use Rattle.gateway_loop.specs.LiveGateway.{AllSucceeded, BreaksTurn, LiveValue, NextReadFails, Serves, ServesUntilFault}
use Rattle.gateway_loop.specs.LiveGateway.{ServesUntilReadFails, ServesUntilWriteFails, SucceedsIffAllTurns, live_value}
use Rattle.gateway_loop.specs.LiveGateway.{serial_reads_and_chunk}
use Rattle.gateway_loop.specs.LiveOutputs.{live_output}
use Rattle.gateway_loop.specs.Reads.{AllReadsSucceed, LastReadFails, MakesReads}
use Rattle.gateway_loop.specs.ScriptReplay.{FailsIffTooManyTurns, ReplayValue, Replays, ReplaysEndedLines}
use Rattle.gateway_loop.specs.ScriptReplay.{ReplaysUntilFault, ReplaysUntilWriteFails, replay_value}
use Rattle.gateway_loop.specs.Turns.{Turn, serial_reads}
use Rattle.gateway_loop.proofs.HeadlineLemmas.{replayed, replayed_until, served, served_until}
use Rattle.gateway_loop.proofs.ReadLemmas.{makes_reads-failed, makes_reads-succeeded}
use Rattle.gateway_loop.proofs.TurnLemmas.{length-desk_reads, length-serial_reads}
use Rattle.byte_io.specs.Writes.{WritesPart, WritesText}

-- ---- reads or writes each of which moved some bytes, or did not fail

-- if the last one is not so, not each of them is
pub last_not_each : (is : Transfer → Type 0) (old new transfers : List Transfer) (last : Transfer)
    → new ≡ old ++ (transfers ++ last ∷ []) → (is last → ⊥) → EachIs is old new → ⊥
last_not_each is old new transfers last made not each =
    grind (arith, common_steps, All-head, All-tail, append_cancel_left)

moves_not_nothing : (transfer : Transfer) → MovesNothing transfer → MovesBytes transfer → ⊥
moves_not_nothing transfer nothing some = grind (arith, common_steps)

pub part_not_each : {old new : SinkValue} {front text : List ℕ} → WritesPart old new front text
    → EachIs MovesBytes old.writes new.writes → ⊥
part_not_each part =
    last_not_each MovesBytes _ _ part.earlier part.last part.accepts.made
    (moves_not_nothing part.last part.last_write_moves_nothing)

pub text_each : {old new : SinkValue} {text : List ℕ} → WritesText old new text
    → EachIs MovesBytes old.writes new.writes
text_each text = record { transfers = text.writes; made = text.accepts.made; each = text.each }

-- ---- `replay`

module _ {S R W : Type 0} (state : S → DeviceStoreState) (source : sources.Ghosts R) (sink : sinks.Ghosts W)
    (explains : Bool) (old new : GatewayValue S × R × W) (turns : ℕ) where
  abbrev at : GatewayValue S × R × W → ReplayValue S
  at = replay_value source sink

  -- the postcondition of `replay`
  abbrev ReplayEnds : Result Summary RunFault → Type 0
  ReplayEnds result = record {
    as_specified : ReplaysAsSpecified state source sink explains result old new;
    ok : IfOk result (Replays state at explains old new);
    err : IfErr result (ReplaysUntilFault state at explains old new);
    reads : (count : ℕ) × (count ≤ turns) × MakesReads (at old).source.reads (at new).source.reads count;
    too_many : FailsIffTooManyTurns at result old new turns;
  }

  pub replay_ends : {summary : Summary} (done : Replays state at explains old new summary)
      → length done.reads ≤ turns → ReplayEnds (Ok summary)
  replay_ends done within = record {
    as_specified = replayed source sink done;
    ok = done;
    err = tt;
    reads = (length done.reads, within, makes_reads-succeeded done.read refl);
    too_many = (
      λ failed. absurd cc,
      λ all. absurd (last_not_each MovesBytes (at old).source.reads (at new).source.reads
          (map Some done.ends.earlier) (Some [])
          (done.read.returns.made ∙ ap (λ reads. (at old).source.reads ++ map Some reads) done.ends.whole
          ∙ ap (λ transfers. (at old).source.reads ++ transfers) (map-append Some done.ends.earlier ([] ∷ [])))
          (λ some. some refl) all.reads),
    );
  }

  pub replay_read_fails : (done : ReplaysEndedLines state at explains LastReadFails old new)
      → length done.reads < turns → ReplayEnds (Err Read)
  replay_read_fails done below = record {
    as_specified = replayed_until source sink Read done;
    ok = tt;
    err = done;
    reads = (length done.reads + 1, omega arith, makes_reads-failed done.read refl);
    too_many = (
      λ failed. absurd cc,
      λ all. absurd (last_not_each MovesBytes _ _ _ None done.read.returns.made (λ some. some) all.reads),
    );
  }

  pub replay_write_fails : (done : ReplaysUntilWriteFails state at explains old new)
      → length done.reads ≤ turns → ReplayEnds (Err Write)
  replay_write_fails done within = record {
    as_specified = replayed_until source sink Write done;
    ok = tt;
    err = done;
    reads = (length done.reads, within, makes_reads-succeeded done.read refl);
    too_many = (
      λ failed. absurd cc,
      λ all. absurd (elim done.broken [
        | inl line ↦ part_not_each line.broken.broken.answered.out all.writes
        | inr end ↦ part_not_each end.broken.broken.answered.out all.writes
      ]),
    );
  }

  pub replay_uses_all_turns : (done : ReplaysEndedLines state at explains AllReadsSucceed old new)
      → length done.reads ≡ turns → ReplayEnds (Err TooManyTurns)
  replay_uses_all_turns done count = record {
    as_specified = replayed_until source sink TooManyTurns done;
    ok = tt;
    err = done;
    reads = (turns, omega arith, makes_reads-succeeded done.read count);
    too_many = (
      λ _. record {
        reads = record {
          transfers = map Some done.reads;
          made = done.read.returns.made;
          each = All-map MovesBytes Some done.reads done.some;
        };
        count = length-map done.reads Some ∙ count;
        writes = text_each done.processed.processed.answered.out;
      },
      λ _. refl,
    );
  }

-- ---- `live`

abbrev each_succeeds : {old new : SourceValue} {reads : List (List ℕ)} → AllReadsSucceed old new reads
    → EachIs IsSome old.reads new.reads
each_succeeds {reads = reads} succeeded = record {
  transfers = map Some reads;
  made = succeeded.returns.made;
  each = All-map IsSome Some reads (λ k d below. refl);
}

length-serial_reads_push : (read : List Turn) (chunk : List ℕ)
    → length (serial_reads read ++ chunk ∷ []) ≡ length read + 1
length-serial_reads_push read chunk = grind (arith, common_steps)

module _ {S P Q R D : Type 0} (state : S → DeviceStoreState) (serial_in : sources.Ghosts P) (desk_in : sources.Ghosts Q)
    (serial_out : sinks.Ghosts R) (desk_out : sinks.Ghosts D) (explains : Bool)
    (old new : GatewayValue S × P × Q × R × D) (turns : ℕ) where
  abbrev value : GatewayValue S × P × Q × R × D → LiveValue S
  value = live_value serial_in desk_in serial_out desk_out

  abbrev LiveReads : Type 0
  LiveReads =
      (n m : ℕ) × (n ≤ turns) × (m ≤ n) × (n ≤ m + 1)
      × MakesReads (value old).serial.reads (value new).serial.reads n
      × MakesReads (value old).desk.reads (value new).desk.reads m

  live_reads : (n m : ℕ) → MakesReads (value old).serial.reads (value new).serial.reads n
      → MakesReads (value old).desk.reads (value new).desk.reads m → n ≤ turns → m ≤ n → n ≤ m + 1 → LiveReads
  live_reads n m serial desk within first at_most_one = (n, m, within, first, at_most_one, serial, desk)

  -- the postcondition of `live`
  abbrev LiveEnds : Result Summary RunFault → Type 0
  LiveEnds result = record {
    as_specified : ServesAsSpecified state serial_in desk_in serial_out desk_out explains result old new turns;
    ok : IfOk result (Serves state value explains old new turns);
    err : IfErr result (ServesUntilFault state value explains old new);
    reads : LiveReads;
    whole : SucceedsIffAllTurns value result old new turns;
  }

  pub live_ends : {summary : Summary} → Serves state value explains old new turns summary → LiveEnds (Ok summary)
  live_ends done =
      let serial = length-serial_reads done.read ∙ done.count in
      let desk = length-desk_reads done.read ∙ done.count in
      record {
        as_specified = served state serial_in desk_in serial_out desk_out explains old new done;
        ok = done;
        err = tt;
        reads = live_reads turns turns (makes_reads-succeeded done.serial serial)
            (makes_reads-succeeded done.desk desk) (omega arith) (omega arith) (omega arith);
        whole = (
          λ _. record {
            serial_reads = each_succeeds done.serial;
            serial_count = length-map _ Some ∙ serial;
            desk_reads = each_succeeds done.desk;
            desk_count = length-map _ Some ∙ desk;
            serial_writes = text_each done.processed.answered.out.0;
            desk_writes = text_each done.processed.answered.out.1;
          },
          λ _. refl,
        );
      }

  pub live_read_fails : (done : ServesUntilReadFails state value explains old new) → length done.read < turns
      → LiveEnds (Err Read)
  live_read_fails done below = record {
    as_specified = served_until state serial_in desk_in serial_out desk_out explains old new Read done;
    ok = tt;
    err = done;
    reads = (ends done.chunk done.fails).0;
    whole = (λ ok. absurd cc, λ all. absurd ((ends done.chunk done.fails).1 all));
  }
    where
      count : ℕ
      count = length done.read

      ends : (chunk : Option (List ℕ)) → NextReadFails (value old) (value new) done.read chunk
          → LiveReads × (AllSucceeded (value old) (value new) turns → ⊥)
      ends None (serial, desk) = (
        live_reads (count + 1) count (makes_reads-failed serial (length-serial_reads done.read))
            (makes_reads-succeeded desk (length-desk_reads done.read)) (omega arith) (omega arith) (omega arith),
        λ all. last_not_each IsSome _ _ _ None serial.returns.made (λ some. absurd cc) all.serial_reads,
      )
      ends (Some chunk) (serial, desk) = (
        live_reads (count + 1) (count + 1)
            (makes_reads-succeeded serial (length-serial_reads_push done.read chunk))
            (makes_reads-failed desk (length-desk_reads done.read)) (omega arith) (omega arith) (omega arith),
        λ all. last_not_each IsSome _ _ _ None desk.returns.made (λ some. absurd cc) all.desk_reads,
      )

  pub live_write_fails : (done : ServesUntilWriteFails state value explains old new)
      → length (serial_reads_and_chunk done.read done.chunk) ≤ turns → LiveEnds (Err Write)
  live_write_fails done within = record {
    as_specified = served_until state serial_in desk_in serial_out desk_out explains old new Write done;
    ok = tt;
    err = done;
    reads = (ends done.chunk done.serial done.broken within).0;
    whole = (λ ok. absurd cc, λ all. absurd ((ends done.chunk done.serial done.broken within).1 all));
  }
    where
      count : ℕ
      count = length done.read

      breaks : List Answer → Answer → Type 0
      breaks = (live_output explains).breaks (value old).serial_and_desk_sinks (value new).serial_and_desk_sinks

      cut_short : (answers : List Answer) (last : Answer) → breaks answers last
          → AllSucceeded (value old) (value new) turns → ⊥
      cut_short answers last (inl (serial, desk)) all = part_not_each serial all.serial_writes
      cut_short answers last (inr (serial, desk)) all = part_not_each desk all.desk_writes

      ends : (chunk : Option (List ℕ))
          → AllReadsSucceed (value old).serial (value new).serial (serial_reads_and_chunk done.read chunk)
          → BreaksTurn state (value old).gateway (value new).gateway done.read chunk breaks
          → length (serial_reads_and_chunk done.read chunk) ≤ turns
          → LiveReads × (AllSucceeded (value old) (value new) turns → ⊥)
      ends None serial broken within =
          let is = length-serial_reads done.read in (
            live_reads count count (makes_reads-succeeded serial is)
                (makes_reads-succeeded done.desk (length-desk_reads done.read)) (omega (arith, is)) (omega arith)
                (omega arith),
            λ all. cut_short _ _ broken.broken.answered.out all,
          )
      ends (Some chunk) serial broken within =
          let is = length-serial_reads_push done.read chunk in (
            live_reads (count + 1) count (makes_reads-succeeded serial is)
                (makes_reads-succeeded done.desk (length-desk_reads done.read)) (omega (arith, is)) (omega arith)
                (omega arith),
            λ all. cut_short _ _ broken.answered.out all,
          )

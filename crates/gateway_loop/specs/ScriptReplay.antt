-- The bytes and inputs that `replay` reads, handles and writes.
use Rattle.std.specs.Prelude.{◌≡◌, ◌↔◌, ◌⊎◌, ◌-◌, ◌^◌, min, ℕ, Bool, List, length, Result, Err}
use Rattle.std.specs.Io.KnownBytes.{IsAtEnd}
use Rattle.std.specs.List.{concat}
use Rattle.learned_devices.specs.DeviceStoreState.{DeviceStoreState}
use Rattle.gateway_core.specs.Calls.{GatewayValue}
use Rattle.gateway_core.specs.Events.{inputs_of}
use Rattle.byte_io.specs.Streams.{SinkValue, SourceValue, sink_value, source_value}
use Rattle.byte_io.specs.Transfers.{EachIs, MovesBytes}
use Rattle.byte_io.specs.declared.sink.Sink as sinks
use Rattle.byte_io.specs.declared.source.Source as sources
use Rattle.gateway_loop.specs.declared.run_result.RunFault.{RunFault}
use Rattle.gateway_loop.specs.declared.run_result.RunFault.TheVariants.{Read, Write, TooManyTurns}
use Rattle.gateway_loop.specs.declared.run_result.Summary.{Summary}
use Rattle.gateway_loop.specs.Processing.{Processes, ProcessesEndedLines, BreaksAtLastEvent, BreaksAtEndedLine}
use Rattle.gateway_loop.specs.Reads.{AllReadsSucceed, LastReadFails, NoneIsEmpty, OnlyLastIsEmpty}
use Rattle.gateway_loop.specs.Script.{script}
use Rattle.gateway_loop.specs.Written.{AppendsReplayText, AppendsCutReplayText}

-- the state of a replay
pub record ReplayValue (S : Type 0) : Type 0 where
  pub gateway : GatewayValue S
  pub source : SourceValue
  pub sink : SinkValue

abbrev pub replay_value : {R W S : Type 0} → sources.Ghosts R → sinks.Ghosts W → GatewayValue S × R × W → ReplayValue S
replay_value source sink now =
    record { gateway = now.0; source = source_value source now.1; sink = sink_value sink now.2 }

-- Below, `at` is the state of the replay before and after the call, and `explains` whether packets are explained.
module _ {S T : Type 0} (stored : S → DeviceStoreState) (at : T → ReplayValue S) (explains : Bool) where
  -- the source was read to its end, exactly the inputs of the script were handled and counted, and the text of their
  -- answers was written
  pub record Replays (old new : T) (summary : Summary) : Type 0 where
    pub reads : List (List ℕ)
    pub read : AllReadsSucceed (at old).source (at new).source reads
    pub ends : OnlyLastIsEmpty reads
    pub at_end : IsAtEnd (at new).source.unread
    pub processed : Processes stored (at old).gateway (at new).gateway (script (concat reads))
        (AppendsReplayText explains (at old).sink (at new).sink)
    pub counted : summary.items ≡ min (length (inputs_of (at old).gateway.rest (script (concat reads)))) (2 ^ 64 - 1)

  -- Exactly the lines whose LF was read were replayed. Each read in `reads` returned at least one byte; `ReadAs` says
  -- whether one more read failed after them.
  pub record ReplaysEndedLines (ReadAs : (old new : SourceValue) (reads : List (List ℕ)) → Type 0) (old new : T)
      : Type 0 where
    pub reads : List (List ℕ)
    pub read : ReadAs (at old).source (at new).source reads
    pub some : NoneIsEmpty reads
    pub processed : ProcessesEndedLines stored (at old).gateway (at new).gateway (concat reads)
        (AppendsReplayText explains (at old).sink (at new).sink)

  -- a write failed or accepted 0 bytes at a line whose LF was read, and each read returned at least one byte
  pub record BreaksAtLine (old new : T) (reads : List (List ℕ)) : Type 0 where
    pub some : NoneIsEmpty reads
    pub broken : BreaksAtEndedLine stored (at old).gateway (at new).gateway (concat reads)
        (AppendsCutReplayText explains (at old).sink (at new).sink)

  -- a write failed or accepted 0 bytes at the last event of the script, and only the last read returned 0 bytes
  pub record BreaksAtEndOfScript (old new : T) (reads : List (List ℕ)) : Type 0 where
    pub ends : OnlyLastIsEmpty reads
    pub at_end : IsAtEnd (at new).source.unread
    pub broken : BreaksAtLastEvent stored (at old).gateway (at new).gateway (script (concat reads))
        (AppendsCutReplayText explains (at old).sink (at new).sink)

  -- no read failed, and a write failed or accepted 0 bytes
  pub record ReplaysUntilWriteFails (old new : T) : Type 0 where
    pub reads : List (List ℕ)
    pub read : AllReadsSucceed (at old).source (at new).source reads
    pub broken : BreaksAtLine old new reads ⊎ BreaksAtEndOfScript old new reads

  -- what was done before a fault
  abbrev pub ReplaysUntilFault : (old new : T) → RunFault → Type 0
  ReplaysUntilFault old new Read = ReplaysEndedLines LastReadFails old new
  ReplaysUntilFault old new Write = ReplaysUntilWriteFails old new
  ReplaysUntilFault old new TooManyTurns = ReplaysEndedLines AllReadsSucceed old new

-- this many reads were made, and each read and each write moved at least one byte
pub record UsesAllTurns {S : Type 0} (old new : ReplayValue S) (turns : ℕ) : Type 0 where
  pub reads : EachIs MovesBytes old.source.reads new.source.reads
  pub count : length reads.transfers ≡ turns
  pub writes : EachIs MovesBytes old.sink.writes new.sink.writes

-- `TooManyTurns` is returned exactly when this many reads were made, and no read or write failed or moved 0 bytes
abbrev pub FailsIffTooManyTurns : {A S T : Type 0} → (T → ReplayValue S) → Result A RunFault → (old new : T) (turns : ℕ)
    → Type 0
FailsIffTooManyTurns at result old new turns = (result ≡ Err TooManyTurns) ↔ UsesAllTurns (at old) (at new) turns

-- The bytes and inputs that `live` reads, handles and writes.
use Rattle.std.specs.Prelude.{◌≡◌, ◌↔◌, ◌-◌, ◌^◌, min, ℕ, Bool, List, [], ◌∷◌, ◌++◌, length}
use Rattle.std.specs.Prelude.{Option, None, Some, IsSome, Result, IsOk}
use Rattle.learned_devices.specs.DeviceStoreState.{DeviceStoreState}
use Rattle.gateway_core.specs.Step.{Answer}
use Rattle.gateway_core.specs.Calls.{GatewayValue}
use Rattle.gateway_core.specs.Events.{InputEvent, Chunk, inputs_of}
use Rattle.byte_io.specs.Streams.{SinkValue, SourceValue, sink_value, source_value}
use Rattle.byte_io.specs.Transfers.{EachIs, MovesBytes}
use Rattle.byte_io.specs.declared.sink.Sink as sinks
use Rattle.byte_io.specs.declared.source.Source as sources
use Rattle.gateway_loop.specs.declared.run_result.RunFault.{RunFault}
use Rattle.gateway_loop.specs.declared.run_result.RunFault.TheVariants.{Read, Write, TooManyTurns}
use Rattle.gateway_loop.specs.declared.run_result.Summary.{Summary}
use Rattle.gateway_loop.specs.Processing.{Breaks, Processes}
use Rattle.gateway_loop.specs.Reads.{AllReadsSucceed, LastReadFails}
use Rattle.gateway_loop.specs.Turns.{Turn, desk_reads, events_of_turns, serial_reads}
use Rattle.gateway_loop.specs.LiveOutputs.{live_output}

-- The state of a live gateway. The sinks are that of the serial line and that of the desk.
pub record LiveValue (S : Type 0) : Type 0 where
  pub gateway : GatewayValue S
  pub serial : SourceValue
  pub desk : SourceValue
  pub serial_and_desk_sinks : SinkValue × SinkValue

abbrev pub live_value : {P Q R D S : Type 0} → sources.Ghosts P → sources.Ghosts Q → sinks.Ghosts R → sinks.Ghosts D
    → GatewayValue S × P × Q × R × D → LiveValue S
live_value serial_in desk_in serial_out desk_out now = record {
  gateway = now.0;
  serial = source_value serial_in now.1;
  desk = source_value desk_in now.2;
  serial_and_desk_sinks = (sink_value serial_out now.3, sink_value desk_out now.4);
}

-- The reads of the serial line, and the events, if a chunk was read after some turns, or nothing yet.
abbrev pub serial_reads_and_chunk : List Turn → Option (List ℕ) → List (List ℕ)
serial_reads_and_chunk turns None = serial_reads turns
serial_reads_and_chunk turns (Some chunk) = serial_reads turns ++ chunk ∷ []

abbrev pub events_and_chunk : List Turn → Option (List ℕ) → List InputEvent
events_and_chunk turns None = events_of_turns turns
events_and_chunk turns (Some chunk) = events_of_turns turns ++ Chunk chunk ∷ []

module _ {S : Type 0} (old new : LiveValue S) where
  -- After the turns the next read failed: of the serial line, or, after a chunk, of the desk.
  abbrev pub NextReadFails : List Turn → Option (List ℕ) → Type 0
  NextReadFails turns None =
      LastReadFails old.serial new.serial (serial_reads turns) × AllReadsSucceed old.desk new.desk (desk_reads turns)
  NextReadFails turns (Some chunk) =
      AllReadsSucceed old.serial new.serial (serial_reads turns ++ chunk ∷ [])
      × LastReadFails old.desk new.desk (desk_reads turns)

  -- this many reads of each source were made, no read failed, and each write accepted at least one byte
  pub record AllSucceeded (turns : ℕ) : Type 0 where
    pub serial_reads : EachIs IsSome old.serial.reads new.serial.reads
    pub serial_count : length serial_reads.transfers ≡ turns
    pub desk_reads : EachIs IsSome old.desk.reads new.desk.reads
    pub desk_count : length desk_reads.transfers ≡ turns
    pub serial_writes : EachIs MovesBytes old.serial_and_desk_sinks.0.writes new.serial_and_desk_sinks.0.writes
    pub desk_writes : EachIs MovesBytes old.serial_and_desk_sinks.1.writes new.serial_and_desk_sinks.1.writes

module _ {S : Type 0} (stored : S → DeviceStoreState) where
  -- an answer to an order of the last turn was not written completely
  pub record BreaksAtOrder (old new : GatewayValue S) (turns : List Turn) (breaks : List Answer → Answer → Type 0)
      : Type 0 where
    pub earlier_turns : List Turn
    pub last : Turn
    pub is_last : turns ≡ earlier_turns ++ last ∷ []
    pub earlier_events : List InputEvent
    pub order : InputEvent
    pub later_events : List InputEvent
    pub whole : events_of_turns turns ≡ (events_and_chunk earlier_turns (Some last.chunk) ++ earlier_events)
        ++ order ∷ later_events
    pub broken : Breaks stored old new (events_and_chunk earlier_turns (Some last.chunk) ++ earlier_events) order breaks

  -- An answer was not written completely: to a packet of the chunk after the turns, or otherwise to an order of the
  -- last turn.
  abbrev pub BreaksTurn : (old new : GatewayValue S) → List Turn → Option (List ℕ) → (List Answer → Answer → Type 0)
      → Type 0
  BreaksTurn old new turns (Some chunk) breaks = Breaks stored old new (events_of_turns turns) (Chunk chunk) breaks
  BreaksTurn old new turns None breaks = BreaksAtOrder old new turns breaks

-- Below, `at` is the state of the live gateway before and after the call, and `explains` whether packets are explained.
module _ {S T : Type 0} (stored : S → DeviceStoreState) (at : T → LiveValue S) (explains : Bool) where
  -- this many turns were read, exactly the inputs of their events were handled and counted, and the radio bytes and
  -- texts of their answers were written
  pub record Serves (old new : T) (turns : ℕ) (summary : Summary) : Type 0 where
    pub read : List Turn
    pub count : length read ≡ turns
    pub serial : AllReadsSucceed (at old).serial (at new).serial (serial_reads read)
    pub desk : AllReadsSucceed (at old).desk (at new).desk (desk_reads read)
    pub processed : Processes stored (at old).gateway (at new).gateway (events_of_turns read)
        ((live_output explains).puts (at old).serial_and_desk_sinks (at new).serial_and_desk_sinks)
    pub counted : summary.items ≡ min (length (inputs_of (at old).gateway.rest (events_of_turns read))) (2 ^ 64 - 1)

  -- a read failed, and everything read before it was handled and answered
  pub record ServesUntilReadFails (old new : T) : Type 0 where
    pub read : List Turn
    pub chunk : Option (List ℕ)
    pub fails : NextReadFails (at old) (at new) read chunk
    pub processed : Processes stored (at old).gateway (at new).gateway (events_and_chunk read chunk)
        ((live_output explains).puts (at old).serial_and_desk_sinks (at new).serial_and_desk_sinks)

  -- no read failed, and an answer was not written completely
  pub record ServesUntilWriteFails (old new : T) : Type 0 where
    pub read : List Turn
    pub chunk : Option (List ℕ)
    pub serial : AllReadsSucceed (at old).serial (at new).serial (serial_reads_and_chunk read chunk)
    pub desk : AllReadsSucceed (at old).desk (at new).desk (desk_reads read)
    pub broken : BreaksTurn stored (at old).gateway (at new).gateway read chunk
        ((live_output explains).breaks (at old).serial_and_desk_sinks (at new).serial_and_desk_sinks)

  -- what was done before a fault; `TooManyTurns` is never returned
  abbrev pub ServesUntilFault : (old new : T) → RunFault → Type 0
  ServesUntilFault old new Read = ServesUntilReadFails old new
  ServesUntilFault old new Write = ServesUntilWriteFails old new
  ServesUntilFault old new TooManyTurns = ⊥

-- `Ok` is returned exactly when all turns were made, no read failed, and no write failed or accepted 0 bytes
abbrev pub SucceedsIffAllTurns : {A E S T : Type 0} → (T → LiveValue S) → Result A E → (old new : T) (turns : ℕ)
    → Type 0
SucceedsIffAllTurns at result old new turns = IsOk result ↔ AllSucceeded (at old) (at new) turns

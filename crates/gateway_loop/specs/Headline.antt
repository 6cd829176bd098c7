-- The headline: what a gateway writes by `replay` and by `live`, what it knows afterwards, and what a crash leaves of
-- it. The contracts of the two functions state it, for every result; that of `start` says how a gateway begins.
use Rattle.std.specs.Prelude.{◌≡◌, ◌⊎◌, ◌+◌, ℕ, Bool, List, [], ◌++◌, length, Result, MatchResult}
use Rattle.std.specs.Io.KnownBytes.{IsAtEnd}
use Rattle.std.specs.List.{concat, flat_map}
use Rattle.learned_devices.specs.DeviceStoreState.{DeviceStoreState}
use Rattle.learned_devices.specs.Devices.{Devices}
use Rattle.gateway_core.specs.Step.{Input, Answer, State}
use Rattle.gateway_core.specs.Run.{InputResult, Run}
use Rattle.gateway_core.specs.Sessions.{initial_state}
use Rattle.gateway_core.specs.Prefixes.{AfterPrefix}
use Rattle.gateway_core.specs.Handling.{HandlerValue, HasState}
use Rattle.gateway_core.specs.Calls.{GatewayValue, new_gateway_value}
use Rattle.gateway_core.specs.Events.{inputs_of}
use Rattle.byte_io.specs.Streams.{sink_value, source_value}
use Rattle.byte_io.specs.Writes.{Adds}
use Rattle.byte_io.specs.declared.sink.Sink as sinks
use Rattle.byte_io.specs.declared.source.Source as sources
use Rattle.gateway_loop.specs.declared.run_result.RunFault.{RunFault}
use Rattle.gateway_loop.specs.declared.run_result.Summary.{Summary}
use Rattle.gateway_loop.specs.Reads.{AllReadsSucceed, OnlyLastIsEmpty, OnlyLastMayFail}
use Rattle.gateway_loop.specs.Script.{script, with_lf}
use Rattle.gateway_loop.specs.Turns.{events_of_turns, turns_of}
use Rattle.gateway_loop.specs.LiveOutputs.{radio_bytes}
use Rattle.gateway_loop.specs.Written.{desk_text, written}

-- the bytes are a prefix of these
pub record IsPrefix (bytes all : List ℕ) : Type 0 where
  pub rest : List ℕ
  pub whole : all ≡ bytes ++ rest

-- the radio bytes of the answers, and their lines for the desk
abbrev pub all_radio_bytes : List Answer → List ℕ
all_radio_bytes answers = flat_map (λ answer. radio_bytes answer.radio) answers

abbrev pub all_desk_text : (explains : Bool) → List Answer → List ℕ
all_desk_text explains answers = flat_map (desk_text explains) answers

-- `lines` is empty, or a prefix of the bytes read that ends with LF; or all of them, if a read of 0 bytes ended the
-- script.
abbrev pub AreWholeLines : (reads : List (List ℕ)) (lines : List ℕ) → Type 0
AreWholeLines reads lines =
    ((more : List ℕ) × (concat reads ≡ lines ++ more) × ((lines ≡ []) ⊎ ((front : List ℕ) × (lines ≡ with_lf front))))
    ⊎ (OnlyLastIsEmpty reads × (lines ≡ concat reads))

-- `S` is a gateway's device store, and `stored` what it keeps.
module _ {S : Type 0} (stored : S → DeviceStoreState) where
  -- A new gateway over a device store with these devices. The mode is closed, all counters are 0, and no byte has
  -- arrived. A crash leaves only these devices.
  pub record IsNew (base : ℕ) (found : Devices) (gateway : GatewayValue S) : Type 0 where
    pub value : gateway ≡ new_gateway_value base gateway.handler.registry
    pub holds_found : (stored gateway.handler.registry).holds found
    pub reopenable : (stored gateway.handler.registry).reopenable
    pub crash_leaves_found : (left : Devices) → (stored gateway.handler.registry).may_recover left → left ≡ found

  -- From the devices found, the inputs were handled one by one. Each took the step of the definitions, or failed. Only
  -- an input that needs memory or the device store can fail; then only the counter of failed inputs changed. The
  -- answers are written. The gateway knows the state after the last step; while the device store is open, it holds the
  -- devices of that state. Any crash state is sound, and is what was known after some prefix of the inputs. The prefix
  -- contains every acknowledged input. The update of the next input may be there too, if the call that commits it
  -- failed.
  pub record AsSpecified (base : ℕ) (found : Devices) (inputs : List Input) (out : List Answer → Type 0)
      (new : HandlerValue S) : Type 0 where
    pub results : List InputResult
    pub answers : List Answer
    pub last : State
    pub run : Run (initial_state base found) inputs results answers last
    pub are_out : out answers
    pub has_last_state : HasState stored new last
    pub reopenable : (stored new.registry).reopenable
    pub crash_leaves_prefix : (left : Devices) → (stored new.registry).may_recover left
        → AfterPrefix (initial_state base found) inputs results left

  -- the same for some prefix of the inputs, and no other input was handled
  pub record BrokenOff (base : ℕ) (found : Devices) (inputs : List Input) (out : List Answer → Type 0)
      (new : HandlerValue S) : Type 0 where
    pub handled : List Input
    pub later : List Input
    pub whole : inputs ≡ handled ++ later
    pub specified : AsSpecified base found handled out new

  -- `replay`, for a new gateway, any reader and any writer. `reads` lists what the reads of this call returned. At `Ok`
  -- no read failed, the last one returned 0 bytes, which ends the script, and the writer accepted exactly the text of
  -- the answers to the inputs of the script. At a fault only the last read may have failed, and the writer accepted a
  -- prefix of the text for some prefix of the inputs. Only lines that were read whole count as inputs. (The
  -- postconditions `err` and `too_many` say which, and when each fault is returned.)
  pub record ReplaySpecified {R W : Type 0} (source : sources.Ghosts R) (sink : sinks.Ghosts W) (explains : Bool)
      (result : Result Summary RunFault) (base : ℕ) (found : Devices) (old new : GatewayValue S × R × W)
      : Type 0 where
    pub reads : List (List ℕ)
    pub text : List ℕ
    pub text_is_added : Adds (sink_value sink old.2) (sink_value sink new.2) text
    pub specified : MatchResult result
        (λ _. AllReadsSucceed (source_value source old.1) (source_value source new.1) reads
        × OnlyLastIsEmpty reads × IsAtEnd (source.left new.1)
        × AsSpecified base found (inputs_of [] (script (concat reads))) (λ answers. text ≡ written explains answers)
        new.0.handler)
        (λ _. OnlyLastMayFail (source_value source old.1) (source_value source new.1) reads
        × (lines : List ℕ) × AreWholeLines reads lines
        × BrokenOff base found (inputs_of [] (script lines))
        (λ answers. IsPrefix text (written explains answers)) new.0.handler)

  abbrev pub ReplaysAsSpecified : {R W : Type 0} → sources.Ghosts R → sinks.Ghosts W → (explains : Bool)
      → Result Summary RunFault → (old new : GatewayValue S × R × W) → Type 0
  ReplaysAsSpecified source sink explains result old new =
      (base : ℕ) (found : Devices) → IsNew base found old.0 → (stored new.0.handler.registry).honest
      → ReplaySpecified source sink explains result base found old new

  -- `live`, for a new gateway, any two readers and any two writers. `serial` and `desk` list what the reads of this
  -- call returned. Any of them may have returned 0 bytes, as from a serial line that is silent for a while. At `Ok` all
  -- turns were made, no read failed, and the writers accepted exactly the radio bytes and the lines of the answers to
  -- the inputs of these reads. At a fault only the last read of a reader may have failed, and the writers accepted
  -- prefixes of these, for some prefix of the inputs; the last turn may lack its read of the desk. (The postconditions
  -- `err` and `reads` of `live` say which.)
  pub record LiveSpecified {P Q R D : Type 0} (serial_in : sources.Ghosts P) (desk_in : sources.Ghosts Q)
      (serial_out : sinks.Ghosts R) (desk_out : sinks.Ghosts D) (explains : Bool) (result : Result Summary RunFault)
      (count base : ℕ) (found : Devices) (old new : GatewayValue S × P × Q × R × D)
      : Type 0 where
    pub serial : List (List ℕ)
    pub desk : List (List ℕ)
    pub alternate : (length serial ≡ length desk) ⊎ (length serial ≡ length desk + 1)
    pub radio_written : List ℕ
    pub desk_written : List ℕ
    pub radio_is_added : Adds (sink_value serial_out old.3) (sink_value serial_out new.3) radio_written
    pub desk_is_added : Adds (sink_value desk_out old.4) (sink_value desk_out new.4) desk_written
    pub specified : MatchResult result
        (λ _. AllReadsSucceed (source_value serial_in old.1) (source_value serial_in new.1) serial
        × AllReadsSucceed (source_value desk_in old.2) (source_value desk_in new.2) desk
        × (length serial ≡ count) × (length desk ≡ count)
        × AsSpecified base found (inputs_of [] (events_of_turns (turns_of serial desk)))
        (λ answers. (radio_written ≡ all_radio_bytes answers) × (desk_written ≡ all_desk_text explains answers))
        new.0.handler)
        (λ _. OnlyLastMayFail (source_value serial_in old.1) (source_value serial_in new.1) serial
        × OnlyLastMayFail (source_value desk_in old.2) (source_value desk_in new.2) desk
        × BrokenOff base found (inputs_of [] (events_of_turns (turns_of serial desk)))
        (λ answers. IsPrefix radio_written (all_radio_bytes answers)
        × IsPrefix desk_written (all_desk_text explains answers)) new.0.handler)

  abbrev pub ServesAsSpecified : {P Q R D : Type 0} → sources.Ghosts P → sources.Ghosts Q → sinks.Ghosts R
      → sinks.Ghosts D → (explains : Bool) → Result Summary RunFault
      → (old new : GatewayValue S × P × Q × R × D) (count : ℕ) → Type 0
  ServesAsSpecified serial_in desk_in serial_out desk_out explains result old new count =
      (base : ℕ) (found : Devices) → IsNew base found old.0 → (stored new.0.handler.registry).honest
      → LiveSpecified serial_in desk_in serial_out desk_out explains result count base found old new

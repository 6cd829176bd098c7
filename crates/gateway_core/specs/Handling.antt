-- How the gateway handles inputs over its device store: its answers, what it then knows, and what a crash may leave.
-- The only premise is about the device store: so far its medium has returned what was written.
use Rattle.std.specs.Prelude.{◌≡◌, ℕ, List, length}
use Rattle.learned_devices.specs.CommitCounts.{AtMostMoreCommits}
use Rattle.learned_devices.specs.DeviceStoreState.{DeviceStoreState}
use Rattle.learned_devices.specs.Devices.{Devices}
use Rattle.teach_in.specs.declared.mode.Mode.{Mode}
use Rattle.gateway_state.specs.declared.counts.Counts.{Counts}
use Rattle.gateway_core.specs.Step.{State, Input, Answer}
use Rattle.gateway_core.specs.Run.{InputResult, Run}
use Rattle.gateway_core.specs.CrashStates.{nothing_committed_yet, crash_states, IsCrashConsistent}

-- the base ID of the radio module, the mode, the counters, and the device store
pub record HandlerValue (S : Type 0) : Type 0 where
  pub base : ℕ
  pub mode : Mode
  pub counts : Counts
  pub registry : S

-- the gateway knows this state
abbrev pub HasState : {S : Type 0} → (S → DeviceStoreState) → HandlerValue S → State → Type 0
HasState stored v s =
    (v.base ≡ s.base) × (v.mode ≡ s.mode) × (stored v.registry).holds s.devices × (v.counts ≡ s.counts)

-- while the medium has returned what was written and the device store is open, the gateway knows some state
abbrev pub HasStateWhileHonest : {S : Type 0} → (S → DeviceStoreState) → HandlerValue S → Type 0
HasStateWhileHonest stored v = (stored v.registry).honest → (start : State) × HasState stored v start

module _ {S : Type 0} (stored : S → DeviceStoreState) where
  -- From the first state, the inputs are handled with these answers and some results. The gateway then knows the last
  -- state of that run, and what a crash leaves is crash-consistent with it.
  pub record HandlesFrom (old : HandlerValue S) (start : State) (inputs : List Input) (answers : List Answer)
      (new : HandlerValue S) : Type 0 where
    pub results : List InputResult
    pub last : State
    pub run : Run start inputs results answers last
    pub at : HasState stored new last
    pub crash : (left : Devices) → (stored new.registry).may_recover left
        → IsCrashConsistent (stored old.registry).may_recover
        (crash_states nothing_committed_yet start inputs results) left

  -- the inputs are handled with these answers, whatever the gateway knew
  pub record Handles (old : HandlerValue S) (inputs : List Input) (answers : List Answer)
      (new : HandlerValue S) : Type 0 where
    pub base : new.base ≡ old.base
    pub clean : (stored new.registry).honest → (stored old.registry).honest
    -- the device store stays sound
    pub reopenable : (stored new.registry).honest → (stored old.registry).reopenable
        → (stored new.registry).reopenable
    -- at most as many commits as inputs
    pub commits : (stored new.registry).honest
        → AtMostMoreCommits (length inputs) (stored old.registry).commits (stored new.registry).commits
    pub ran_from_any : (stored new.registry).honest → (start : State) → HasState stored old start
        → HandlesFrom old start inputs answers new

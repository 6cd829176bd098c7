-- A crash leaves what was known after a prefix of the inputs, perhaps with the update of the next one. The prefix
-- contains every acknowledged input.
use Rattle.std.specs.Prelude.{◌≡◌, ◌<◌, ◌⊎◌, ℕ, length, IsSome, List, [], ◌∷◌, ◌++◌, Option, Some, None}
use Rattle.learned_devices.specs.Devices.{Devices}
use Rattle.gateway_core.specs.Step.{State, Input, Answer, update_of, with_update}
use Rattle.gateway_core.specs.Run.{InputResult, Applied, Failed, FailedAtCommit, state_after_result, Run}
use Rattle.gateway_core.specs.CrashStates.{nothing_committed_yet, crash_states, IsCrashConsistent}
use Rattle.gateway_core.specs.Sessions.{Session, initial_state, IsSession}

-- whether the input's update was acknowledged
abbrev pub HasAcknowledgedUpdate : State → Input → InputResult → Type 0
HasAcknowledgedUpdate state input Applied = IsSome (update_of state input)
HasAcknowledgedUpdate state input (Failed cause) = ⊥
HasAcknowledgedUpdate state input (FailedAtCommit cause) = ⊥

-- none of these inputs was acknowledged; each has its result
abbrev pub NoUpdateAcknowledged : State → List Input → List InputResult → Type 0
NoUpdateAcknowledged state [] [] = Unit {0}
NoUpdateAcknowledged state (input ∷ inputs) (result ∷ results) =
    (¬ HasAcknowledgedUpdate state input result)
    × NoUpdateAcknowledged (state_after_result state input result) inputs results
NoUpdateAcknowledged state inputs results = ⊥

abbrev pub state_after_run : State → List Input → List InputResult → State
state_after_run state (input ∷ inputs) (result ∷ results) =
    state_after_run (state_after_result state input result) inputs results
state_after_run state inputs results = state

-- the devices are those with the update of the first input, which failed at its commit
abbrev pub HasFailedNextUpdate : State → List Input → List InputResult → Devices → Type 0
HasFailedNextUpdate state (input ∷ inputs) (FailedAtCommit cause ∷ results) devices =
    devices ≡ with_update state.devices (update_of state input)
HasFailedNextUpdate state inputs results devices = ⊥

-- The devices after the inputs of the prefix, perhaps with the update of the next one, which failed at its commit. No
-- input after the prefix was acknowledged.
pub record AfterPrefix (start : State) (inputs : List Input) (results : List InputResult) (devices : Devices) : Type 0
  where
    pub earlier_inputs : List Input
    pub later_inputs : List Input
    pub earlier_results : List InputResult
    pub later_results : List InputResult
    pub inputs_are : inputs ≡ earlier_inputs ++ later_inputs
    pub results_are : results ≡ earlier_results ++ later_results
    pub as_many_results : length earlier_inputs ≡ length earlier_results
    pub mid : State
    pub mid_is : mid ≡ state_after_run start earlier_inputs earlier_results
    pub later_unacknowledged : NoUpdateAcknowledged mid later_inputs later_results
    pub devices_are : (devices ≡ mid.devices) ⊎ HasFailedNextUpdate mid later_inputs later_results devices

-- crash-consistent devices are those known after a prefix of the inputs that contains every acknowledged one, perhaps
-- with the update of the next one, which failed at its commit
abbrev pub CrashStatesArePrefixes : Type 0
CrashStatesArePrefixes = (start : State) (inputs : List Input) (results : List InputResult) (devices : Devices)
    → length inputs ≡ length results
    → IsCrashConsistent (λ found. found ≡ start.devices)
    (crash_states nothing_committed_yet start inputs results) devices
    → AfterPrefix start inputs results devices

-- wherever the inputs are split at an acknowledged one, it is in that prefix
abbrev pub AcknowledgedAreInPrefix : Type 0
AcknowledgedAreInPrefix =
    (start : State) (inputs ahead behind : List Input) (input : Input) (results earlier later : List InputResult)
    (result : InputResult)
    (devices : Devices)
    → (prefix : AfterPrefix start inputs results devices)
    → inputs ≡ ahead ++ input ∷ behind → results ≡ earlier ++ result ∷ later → length ahead ≡ length earlier
    → HasAcknowledgedUpdate (state_after_run start ahead earlier) input result
    → length ahead < length prefix.earlier_inputs

-- the update of the input in progress at the crash is done
abbrev pub HasInterruptedUpdate : State → Option Input → Devices → Type 0
HasInterruptedUpdate state None devices = ⊥
HasInterruptedUpdate state (Some input) devices = devices ≡ with_update state.devices (update_of state input)

-- A session leaves what was known after a prefix of its inputs that contains every acknowledged one, or after all of
-- them and the one in progress.
abbrev pub SessionsLeavePrefixes : Type 0
SessionsLeavePrefixes = (session : Session) → IsSession session
    → AfterPrefix (initial_state session.base session.found) session.inputs session.results session.left
    ⊎ HasInterruptedUpdate session.last session.interrupted_input session.left

-- Conversely, a run with these results is a session that a crash ended, if the crash left the devices after a prefix
-- that contains every acknowledged input. So the theorems about sessions and restarts apply to it.
abbrev pub PrefixesEndSessions : Type 0
PrefixesEndSessions = (base : ℕ) (found : Devices) (inputs : List Input) (results : List InputResult)
    (answers : List Answer) (last : State) (left : Devices)
    → Run (initial_state base found) inputs results answers last
    → AfterPrefix (initial_state base found) inputs results left
    → IsSession (record {
      base = base;
      found = found;
      inputs = inputs;
      results = results;
      answers = answers;
      last = last;
      interrupted_input = None;
      left = left;
    })

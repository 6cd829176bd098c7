-- Crash consistency composes.
use Rattle.std.proofs.Common.{◌≡◌, inl, inr, true, cond, List, [], ◌∷◌, ◌++◌, length, Option, refl, sym, ap, ◌∙◌, arith}
use Rattle.learned_devices.specs.Devices.{Devices, DeviceUpdate}
use Rattle.gateway_core.specs.Step.{State, Input, update_of, with_update}
use Rattle.gateway_core.specs.Run.{InputResult, Applied, Failed, FailedAtCommit, state_after_result}
use Rattle.gateway_core.specs.CrashStates.{CrashStates, nothing_committed_yet, after_committed_update}
use Rattle.gateway_core.specs.CrashStates.{with_pending_update, crash_states_after_result, crash_states, IsOneOf}
use Rattle.gateway_core.specs.CrashStates.{IsCrashConsistent, CrashConsistencyComposes}
use Rattle.gateway_core.specs.Prefixes.{state_after_run}
use Rattle.gateway_core.proofs.RunLemmas.{run-last}

-- the crash states of a first list of inputs and then a second
abbrev over : CrashStates → CrashStates → CrashStates
over first second =
    record {
      has_commit = cond second.has_commit true first.has_commit;
      possible_devices = cond second.has_commit second.possible_devices
          (second.possible_devices ++ first.possible_devices);
    }

crash_states_after_result-over : (first second : CrashStates) (state : State) (input : Input) (result : InputResult)
    → crash_states_after_result (over first second) state input result
    ≡ over first (crash_states_after_result second state input result)
crash_states_after_result-over first second state input result = grind arith

crash_states-over : (first second : CrashStates) (state : State) (inputs : List Input) (results : List InputResult)
    → crash_states (over first second) state inputs results ≡ over first (crash_states second state inputs results)
crash_states-over first second state (input ∷ inputs) (result ∷ results) =
    rw (crash_states_after_result-over first second state input result)
    (crash_states-over first (crash_states_after_result second state input result)
    (state_after_result state input result) inputs results)
crash_states-over first second state inputs results = refl

-- the inputs after others, from the crash states of these
pub crash_states-append : (left : CrashStates) (state : State) (inputs others : List Input)
    (results more : List InputResult) → length inputs ≡ length results
    → crash_states left state (inputs ++ others) (results ++ more)
    ≡ crash_states (crash_states left state inputs results) (state_after_run state inputs results) others more
crash_states-append left state [] others [] more as_many = refl
crash_states-append left state (input ∷ inputs) others (result ∷ results) more as_many =
    crash_states-append (crash_states_after_result left state input result) (state_after_result state input result)
    inputs others results more (omega (arith, as_many))
crash_states-append left state inputs others results more as_many = absurd (omega (arith, as_many))

IsOneOf-append_left : (left right : List Devices) (devices : Devices) → IsOneOf left devices
    → IsOneOf (left ++ right) devices
IsOneOf-append_left (first ∷ left) right devices (inl is) = inl is
IsOneOf-append_left (first ∷ left) right devices (inr is) = inr (IsOneOf-append_left left right devices is)
IsOneOf-append_left [] right devices is = absurd is

IsOneOf-append_right : (left right : List Devices) (devices : Devices) → IsOneOf right devices
    → IsOneOf (left ++ right) devices
IsOneOf-append_right [] right devices is = is
IsOneOf-append_right (first ∷ left) right devices is = inr (IsOneOf-append_right left right devices is)

crash_consistent-over : (Before : Devices → Type 0) (first second : CrashStates) (devices : Devices)
    → IsCrashConsistent (IsCrashConsistent Before first) second devices
    → IsCrashConsistent Before (over first second) devices
crash_consistent-over Before first second devices consistent = grind (arith, IsOneOf-append_left, IsOneOf-append_right)

pub crash_consistency_composes : (Before : Devices → Type 0) → CrashConsistencyComposes Before
crash_consistency_composes Before old mid inputs others results more answers devices run safe =
    let first = crash_states nothing_committed_yet old inputs results in
    let ends = run-last old mid inputs results answers run in
    let is : crash_states nothing_committed_yet old (inputs ++ others) (results ++ more)
    ≡ over first (crash_states nothing_committed_yet mid others more) =
    crash_states-append nothing_committed_yet old inputs others results more ends.0
    ∙ ap (λ state. crash_states first state others more) (sym ends.1)
    ∙ crash_states-over first nothing_committed_yet mid others more in
    rw is (crash_consistent-over Before first (crash_states nothing_committed_yet mid others more) devices safe)

pub crash_consistent-weaker : (P Q : Devices → Type 0) → ((devices : Devices) → P devices → Q devices)
    → (left : CrashStates) (devices : Devices) → IsCrashConsistent P left devices → IsCrashConsistent Q left devices
crash_consistent-weaker P Q weaker left devices safe = grind (arith, weaker)

pub crash_consistent-with_pending : (Before : Devices → Type 0) (left : CrashStates) (known : Devices)
    (update : Option DeviceUpdate)
    (devices : Devices)
    → IsCrashConsistent Before left devices → IsCrashConsistent Before (with_pending_update left known update) devices
crash_consistent-with_pending Before left known update devices safe = grind arith

crash_consistent-after_committed : (Before : Devices → Type 0) (left : CrashStates) (known : Devices)
    (update : Option DeviceUpdate)
    → IsCrashConsistent Before left known
    → IsCrashConsistent Before (after_committed_update left known update) (with_update known update)
crash_consistent-after_committed Before left known update safe = grind arith

-- the devices after one input are crash-consistent
pub crash_consistent-after_input : (Before : Devices → Type 0) (left : CrashStates) (state : State) (input : Input)
    (result : InputResult)
    → IsCrashConsistent Before left state.devices
    → IsCrashConsistent Before (crash_states_after_result left state input result)
    (state_after_result state input result).devices
crash_consistent-after_input Before left state input Applied safe = crash_consistent-after_committed Before left
    state.devices (update_of state input) safe
crash_consistent-after_input Before left state input (Failed cause) safe = safe
crash_consistent-after_input Before left state input (FailedAtCommit cause) safe =
    crash_consistent-with_pending Before left state.devices (update_of state input) state.devices safe

-- so are those after a run
pub crash_consistent-after_run : (Before : Devices → Type 0) (left : CrashStates) (state : State) (inputs : List Input)
    (results : List InputResult)
    → IsCrashConsistent Before left state.devices
    → IsCrashConsistent Before (crash_states left state inputs results) (state_after_run state inputs results).devices
crash_consistent-after_run Before left state (input ∷ inputs) (result ∷ results) safe =
    crash_consistent-after_run Before (crash_states_after_result left state input result)
    (state_after_result state input result)
    inputs results (crash_consistent-after_input Before left state input result safe)
crash_consistent-after_run Before left state inputs results safe = safe

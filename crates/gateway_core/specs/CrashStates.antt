-- The crash states of a run: the devices that a crash may leave in the device store.
use Rattle.std.specs.Prelude.{◌≡◌, ◌⊎◌, Bool, true, false, List, [], ◌∷◌, ◌++◌, Option, Some, None}
use Rattle.learned_devices.specs.Devices.{Devices, DeviceUpdate, apply_update}
use Rattle.gateway_core.specs.Step.{State, Input, Answer, update_of}
use Rattle.gateway_core.specs.Run.{InputResult, Applied, Failed, FailedAtCommit, state_after_result, Run}

-- whether an update was committed, and what a crash may leave since then
pub record CrashStates : Type 0 where
  pub has_commit : Bool
  pub possible_devices : List Devices

abbrev pub nothing_committed_yet : CrashStates
nothing_committed_yet = record { has_commit = false; possible_devices = [] }

-- a committed update leaves only the devices with it
abbrev pub after_committed_update : CrashStates → Devices → Option DeviceUpdate → CrashStates
after_committed_update left devices (Some update) =
    record { has_commit = true; possible_devices = apply_update devices update ∷ [] }
after_committed_update left devices None = left

-- an update that is not committed also leaves the devices with it
abbrev pub with_pending_update : CrashStates → Devices → Option DeviceUpdate → CrashStates
with_pending_update left devices (Some update) =
    record { has_commit = left.has_commit; possible_devices = apply_update devices update ∷ left.possible_devices }
with_pending_update left devices None = left

abbrev pub crash_states_after_result : CrashStates → State → Input → InputResult → CrashStates
crash_states_after_result left state input Applied = after_committed_update left state.devices (update_of state input)
crash_states_after_result left state input (Failed cause) = left
crash_states_after_result left state input (FailedAtCommit cause) =
    with_pending_update left state.devices (update_of state input)

-- the inputs one after another, from this state on
abbrev pub crash_states : CrashStates → State → List Input → List InputResult → CrashStates
crash_states left state (input ∷ inputs) (result ∷ results) =
    crash_states (crash_states_after_result left state input result) (state_after_result state input result) inputs
    results
crash_states left state inputs results = left

abbrev pub IsOneOf : (possible : List Devices) → Devices → Type 0
IsOneOf [] devices = ⊥
IsOneOf (first ∷ others) devices = (devices ≡ first) ⊎ IsOneOf others devices

-- the devices are one of those left, or nothing was committed and a crash could leave them before
abbrev pub IsCrashConsistent : (Before : Devices → Type 0) → CrashStates → (left : Devices) → Type 0
IsCrashConsistent Before left devices = IsOneOf left.possible_devices devices
    ⊎ ((left.has_commit ≡ false) × Before devices)

-- crash consistency composes: if each of two consecutive lists of inputs is crash-consistent, so is their concatenation
abbrev pub CrashConsistencyComposes : (Devices → Type 0) → Type 0
CrashConsistencyComposes Before =
    (old mid : State) (inputs others : List Input) (results more : List InputResult) (answers : List Answer)
    (devices : Devices)
    → Run old inputs results answers mid
    → IsCrashConsistent (IsCrashConsistent Before (crash_states nothing_committed_yet old inputs results))
    (crash_states nothing_committed_yet mid others more) devices
    → IsCrashConsistent Before (crash_states nothing_committed_yet old (inputs ++ others) (results ++ more)) devices

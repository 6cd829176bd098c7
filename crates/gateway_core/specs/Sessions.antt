-- Sessions of the gateway, each ended by a crash, and what later ones find.
use Rattle.std.specs.Prelude.{◌≡◌, ◌≢◌, ◌⊎◌, ℕ, List, [], ◌∷◌, ◌++◌, Option, Some, None}
use Rattle.std.specs.List.{AllByRecursion}
use Rattle.std.specs.FinMap.{get}
use Rattle.learned_devices.specs.Devices.{Devices, DeviceUpdate}
use Rattle.teach_in.specs.declared.mode.Mode.TheVariants.{Closed}
use Rattle.gateway_state.specs.Counts.{zero_counts}
use Rattle.gateway_core.specs.Step.{State, Input, Answer, update_of, state_after_applied_input}
use Rattle.gateway_core.specs.Run.{InputResult, Applied, Failed, FailedAtCommit, state_after_result, Run}
use Rattle.gateway_core.specs.Promises.{Promises, IsPromiseKeptBy}
use Rattle.gateway_core.specs.CrashStates.{CrashStates, nothing_committed_yet, with_pending_update, crash_states}
use Rattle.gateway_core.specs.CrashStates.{IsCrashConsistent}

-- the base ID, the devices found, the inputs with their results and answers, the state after them, the input in
-- progress at the crash, and the devices that the crash left
pub record Session : Type 0 where
  pub base : ℕ
  pub found : Devices
  pub inputs : List Input
  pub results : List InputResult
  pub answers : List Answer
  pub last : State
  pub interrupted_input : Option Input
  pub left : Devices

-- a session begins with the devices found, with the mode closed and all counters 0
abbrev pub initial_state : (base : ℕ) → Devices → State
initial_state base devices = record { base = base; mode = Closed; counts = zero_counts; devices = devices }

-- the update of the input in progress may be there or not
abbrev pub with_interrupted : CrashStates → State → Option Input → CrashStates
with_interrupted left state None = left
with_interrupted left state (Some input) = with_pending_update left state.devices (update_of state input)

pub record IsSession (session : Session) : Type 0 where
  pub run : Run (initial_state session.base session.found) session.inputs session.results session.answers session.last
  pub safe : IsCrashConsistent (λ devices. devices ≡ session.found)
      (with_interrupted (crash_states nothing_committed_yet (initial_state session.base session.found) session.inputs
      session.results) session.last session.interrupted_input)
      session.left

-- each session finds what the one before left
abbrev pub AreSessions : (found : Devices) → List Session → (last : Devices) → Type 0
AreSessions found [] last = last ≡ found
AreSessions found (session ∷ sessions) last =
    (session.found ≡ found) × IsSession session × AreSessions session.left sessions last

-- the update that an input with this result makes or may make
abbrev pub possible_update : State → Input → InputResult → Option DeviceUpdate
possible_update state input Applied = update_of state input
possible_update state input (Failed cause) = None
possible_update state input (FailedAtCommit cause) = update_of state input

-- the update, if any, is of another sender, or keeps what this one guarantees
abbrev pub IsNotOverriddenBy : DeviceUpdate → Option DeviceUpdate → Type 0
IsNotOverriddenBy it None = Unit {0}
IsNotOverriddenBy it (Some update) = (update.sender ≢ it.sender) ⊎ IsPromiseKeptBy it.operation update.operation

-- each input that changes the sender keeps what this update guarantees, whether it is applied or fails at its commit
abbrev pub NoneOverrides : DeviceUpdate → State → List Input → List InputResult → Type 0
NoneOverrides it state (input ∷ inputs) (result ∷ results) =
    IsNotOverriddenBy it (possible_update state input result)
    × NoneOverrides it (state_after_result state input result) inputs results
NoneOverrides it state inputs results = Unit {0}

abbrev pub InterruptedDoesNotOverride : DeviceUpdate → State → Option Input → Type 0
InterruptedDoesNotOverride it state None = Unit {0}
InterruptedDoesNotOverride it state (Some input) = IsNotOverriddenBy it (update_of state input)

abbrev pub SessionDoesNotOverride : DeviceUpdate → Session → Type 0
SessionDoesNotOverride it session = NoneOverrides it (initial_state session.base session.found) session.inputs
    session.results × InterruptedDoesNotOverride it session.last session.interrupted_input

-- the session acknowledged the update, and then nothing in it overrode what that guarantees
pub record AcknowledgesAndKeeps (session : Session) (update : DeviceUpdate) : Type 0 where
  pub earlier_inputs : List Input
  pub input : Input
  pub later_inputs : List Input
  pub earlier_results : List InputResult
  pub later_results : List InputResult
  pub earlier_answers : List Answer
  pub state_before : State
  pub inputs_are : session.inputs ≡ earlier_inputs ++ input ∷ later_inputs
  pub results_are : session.results ≡ earlier_results ++ Applied ∷ later_results
  pub run : Run (initial_state session.base session.found) earlier_inputs earlier_results earlier_answers state_before
  pub asks_for_update : update_of state_before input ≡ Some update
  pub not_overridden_after : NoneOverrides update
      (state_after_applied_input state_before input) later_inputs later_results
  pub crash : InterruptedDoesNotOverride update session.last session.interrupted_input

-- theorem `updates_survive_restarts`: every later session finds what an acknowledged update guarantees, until an input
-- overrides it
abbrev pub UpdatesSurviveRestarts : Type 0
UpdatesSurviveRestarts = (session : Session) (update : DeviceUpdate) (sessions : List Session) (last : Devices) →
    IsSession session → AcknowledgesAndKeeps session update → AllByRecursion (SessionDoesNotOverride update) sessions
    → AreSessions session.left sessions last
    → Promises update.operation (get last update.sender)

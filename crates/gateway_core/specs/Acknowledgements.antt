-- An update that a teach line acknowledged holds in every later session.
use Rattle.std.specs.Prelude.{◌≡◌, ◌⊎◌, length, List, ◌∷◌, ◌++◌, Some}
use Rattle.std.specs.List.{AllByRecursion}
use Rattle.std.specs.FinMap.{get}
use Rattle.learned_devices.specs.declared.Device.{Device}
use Rattle.learned_devices.specs.Devices.{Devices}
use Rattle.learned_devices.specs.Ranges.{AreInRange, HasDeviceNumbersInRange}
use Rattle.teach_in.specs.declared.outcome.Outcome.TheVariants.{Accepted, Deleted}
use Rattle.json_lines.specs.Lines.{HasNumbersInRange, Teach, TeachLine, text}
use Rattle.gateway_core.specs.Step.{State, Input, Answer, update_of, state_after_applied_input, device_teach_line}
use Rattle.gateway_core.specs.Run.{InputResult, Run, Applied}
use Rattle.gateway_core.specs.Sessions.{AreSessions, IsSession, Session, SessionDoesNotOverride, NoneOverrides}
use Rattle.gateway_core.specs.Sessions.{InterruptedDoesNotOverride, initial_state}
use Rattle.gateway_core.specs.Promises.{Promises}
use Rattle.gateway_core.specs.Ranges.{PacketBodyIsBytes}
use Rattle.gateway_core.specs.Reporting.{accepted_or_deleted_update}

-- at one index, a session answered an input with this teach line
pub record AnswersWithTeachLine (session : Session) (line : TeachLine) : Type 0 where
  pub earlier_inputs : List Input
  pub input : Input
  pub later_inputs : List Input
  pub earlier_results : List InputResult
  pub applied_or_failed : InputResult
  pub later_results : List InputResult
  pub earlier_answers : List Answer
  pub answer : Answer
  pub later_answers : List Answer
  pub inputs_are : session.inputs ≡ earlier_inputs ++ input ∷ later_inputs
  pub results_are : session.results ≡ earlier_results ++ applied_or_failed ∷ later_results
  pub answers_are : session.answers ≡ earlier_answers ++ answer ∷ later_answers
  pub as_many_results : length earlier_inputs ≡ length earlier_results
  pub as_many_answers : length earlier_inputs ≡ length earlier_answers
  pub reported : answer.desk ≡ text (Teach line)

-- The input asks for the acknowledged update of this device, in the state that the run reached before it. The line has
-- the text of this device's line. Every later session finds the update, until an input that changes that sender
-- otherwise is applied, fails at its commit, or is interrupted by a crash. If the devices found are in range and the
-- data of packets are bytes, the device is in range, and a line in range is the line of this device.
pub record IsDurable (session : Session) (line : TeachLine)
    (answered : AnswersWithTeachLine session line) : Type 0 where
  pub state_before : State
  pub device : Device
  pub run : Run
      (initial_state session.base session.found) answered.earlier_inputs answered.earlier_results
      answered.earlier_answers state_before
  pub is_applied : answered.applied_or_failed ≡ Applied
  pub asks_for_update : update_of state_before answered.input ≡ Some (accepted_or_deleted_update line.outcome device)
  pub same_text : text (Teach line) ≡ text (Teach (device_teach_line device line.outcome))
  pub kept_unless_overridden : NoneOverrides (accepted_or_deleted_update line.outcome device)
      (state_after_applied_input state_before answered.input)
      answered.later_inputs answered.later_results
      → InterruptedDoesNotOverride
      (accepted_or_deleted_update line.outcome device) session.last session.interrupted_input
      → (sessions : List Session) (last : Devices)
      → AllByRecursion (SessionDoesNotOverride (accepted_or_deleted_update line.outcome device)) sessions
      → AreSessions session.left sessions last
      → Promises (accepted_or_deleted_update line.outcome device).operation
      (get last (accepted_or_deleted_update line.outcome device).sender)
  pub in_range : AreInRange session.found → AllByRecursion PacketBodyIsBytes session.inputs
      → HasDeviceNumbersInRange device
  pub is_line_of_device : AreInRange session.found → AllByRecursion PacketBodyIsBytes session.inputs
      → HasNumbersInRange line
      → line ≡ device_teach_line device line.outcome

abbrev pub AcceptedOrDeletedIsDurable : Type 0
AcceptedOrDeletedIsDurable =
    (session : Session) (line : TeachLine) → IsSession session → (answered : AnswersWithTeachLine session line)
    → (line.outcome ≡ Accepted) ⊎ (line.outcome ≡ Deleted) → IsDurable session line answered

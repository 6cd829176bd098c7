-- An update that a teach line acknowledged holds in every later session.
use Rattle.std.proofs.Common.{◌≡◌, ◌∷◌, Some}
use Rattle.std.specs.List.{AllByRecursion}
use Rattle.learned_devices.specs.declared.Device.{Device}
use Rattle.json_lines.specs.Lines.{Teach, TeachLine, text}
use Rattle.json_lines.proofs.TeachTextsInjective.{one_teach_line}
use Rattle.gateway_core.specs.Step.{State, update_of, device_teach_line}
use Rattle.gateway_core.specs.Run.{Run, Applied}
use Rattle.gateway_core.specs.Sessions.{IsSession, Session, initial_state}
use Rattle.gateway_core.specs.Reporting.{accepted_or_deleted_update}
use Rattle.gateway_core.specs.Acknowledgements.{AnswersWithTeachLine, IsDurable, AcceptedOrDeletedIsDurable}
use Rattle.learned_devices.specs.Ranges.{AreInRange, HasDeviceNumbersInRange}
use Rattle.gateway_core.specs.Ranges.{PacketBodyIsBytes, IsStateInRange}
use Rattle.gateway_core.proofs.SessionLemmas.{updates_survive_restarts}
use Rattle.gateway_core.proofs.ReportingLemmas.{teach_lines_are_true}
use Rattle.gateway_core.specs.Prefixes.{state_after_run}
use Rattle.gateway_core.proofs.RunLemmas.{run-prefix}
use Rattle.gateway_core.proofs.RangeLemmas.{state_after_run-in_range, bytes-append, reported-device}

-- the devices found are in range, and the inputs are of bytes
abbrev BeginsInRange : Session → Type 0
BeginsInRange session = AreInRange session.found × AllByRecursion PacketBodyIsBytes session.inputs

-- the state in which the answered input was handled
abbrev state_before : (session : Session) (line : TeachLine) → AnswersWithTeachLine session line → State
state_before session line answered =
    state_after_run (initial_state session.base session.found) answered.earlier_inputs answered.earlier_results

-- it is in range, and the input is of bytes
state_before-in_range : (session : Session) (line : TeachLine) (answered : AnswersWithTeachLine session line)
    → BeginsInRange session → IsStateInRange (state_before session line answered) × PacketBodyIsBytes answered.input
state_before-in_range session line answered (found, bytes) =
    let parts = bytes-append answered.earlier_inputs (answered.input ∷ answered.later_inputs)
    (rw answered.inputs_are at bytes) in (
      state_after_run-in_range (initial_state session.base session.found) answered.earlier_inputs
          answered.earlier_results
          parts.0 (found, tt),
      parts.1.0,
    )

answered_update-is_durable : (session : Session) (line : TeachLine) → IsSession session
    → (answered : AnswersWithTeachLine session line)
    → let before = state_before session line answered in
    Run (initial_state session.base session.found) answered.earlier_inputs answered.earlier_results
    answered.earlier_answers before
    → answered.applied_or_failed ≡ Applied
    → (known : Device) → text (Teach line) ≡ text (Teach (device_teach_line known line.outcome))
    → update_of before answered.input ≡ Some (accepted_or_deleted_update line.outcome known)
    → (BeginsInRange session → HasDeviceNumbersInRange known) → IsDurable session line answered
answered_update-is_durable session line is answered run applied known same_text asks in_range = record {
  state_before = state_before session line answered;
  device = known;
  run = run;
  is_applied = applied;
  asks_for_update = asks;
  same_text = same_text;
  in_range = λ found bytes. in_range (found, bytes);
  is_line_of_device = λ found bytes numbers.
      one_teach_line line (device_teach_line known line.outcome) numbers (in_range (found, bytes)) same_text;
  kept_unless_overridden = λ spared crash sessions last all are.
      updates_survive_restarts session (accepted_or_deleted_update line.outcome known) sessions last is (record {
        earlier_inputs = answered.earlier_inputs;
        input = answered.input;
        later_inputs = answered.later_inputs;
        earlier_results = answered.earlier_results;
        later_results = answered.later_results;
        earlier_answers = answered.earlier_answers;
        state_before = state_before session line answered;
        inputs_are = answered.inputs_are;
        results_are = rw applied at answered.results_are;
        run = run;
        asks_for_update = asks;
        not_overridden_after = spared;
        crash = crash;
      }) all are;
}

pub accepted_or_deleted_is_durable : AcceptedOrDeletedIsDurable
accepted_or_deleted_is_durable session line is answered acknowledged =
    let whole = rw (answered.inputs_are, answered.results_are, answered.answers_are) at is.run in
    let (run, answer_is) = run-prefix (initial_state session.base session.found) session.last answered.earlier_inputs
    answered.later_inputs answered.input answered.earlier_results answered.later_results answered.applied_or_failed
    answered.earlier_answers answered.later_answers answered.answer answered.as_many_results answered.as_many_answers
    whole in
    let before = state_before session line answered in
    let reports = teach_lines_are_true before answered.input answered.applied_or_failed line
    (rw answer_is at answered.reported) in
    let (known, same_text, asks, in_range) = reported-device before answered.input line acknowledged reports.1 in
    answered_update-is_durable session line is answered run reports.0 known same_text asks
    (λ begins. let (state_in, bytes) = state_before-in_range session line answered begins in in_range state_in bytes)

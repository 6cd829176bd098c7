-- The result of an input that is tried.
use Rattle.std.specs.Prelude.{◌≡◌, ℕ, List, true, false, MatchBool, IsSome, Option, Some, None, Result, Ok, Err}
use Rattle.learned_devices.specs.CommitCounts.{AtMostMoreCommits}
use Rattle.learned_devices.specs.DeviceStoreState.{DeviceStoreState, Keeps, Commits, LeavesPending}
use Rattle.learned_devices.specs.declared.Device.{Device}
use Rattle.learned_devices.specs.Devices.{Devices, DeviceUpdate, is_full_for, learn_update, forget_update}
use Rattle.teach_in.specs.declared.mode.Mode.{Mode}
use Rattle.teach_in.specs.declared.outcome.Outcome.{Outcome}
use Rattle.teach_in.specs.declared.outcome.Outcome.TheVariants.{Accepted}
use Rattle.teach_in.specs.declared.telegrams.Teach.{Teach}
use Rattle.teach_in.specs.declared.telegrams.Teach.TheVariants.{FourByte, Ute}
use Rattle.teach_in.specs.FourByte.{four_byte_reply_code}
use Rattle.teach_in.specs.Ute.{ute_reply_code}
use Rattle.gateway_state.specs.declared.counts.Counter.TheVariants as count
use Rattle.gateway_state.specs.declared.counts.Counts.{Counts}
use Rattle.gateway_state.specs.declared.handling_reason.HandlingReason.TheVariants as why
use Rattle.teach_in.specs.declared.verdict.Verdict.{Verdict}
use Rattle.gateway_core.specs.declared.failure.Failure.{Failure}
use Rattle.gateway_core.specs.declared.failure.Failure.TheVariants.{BeforeCommit, AtCommit}
use Rattle.gateway_state.specs.Counts.{increment, increment_if_any}
use Rattle.json_lines.specs.Lines.{Teach as TeachOf, TeachLine, text}
use Rattle.gateway_core.specs.declared.disposition.Disposition.{Disposition}
use Rattle.gateway_core.specs.Dispositions.{without_device}
use Rattle.gateway_core.specs.Step.{State, Input, Answer, with_packet_line, packet_line_for, text_answer, Effect}
use Rattle.gateway_core.specs.Step.{unexplained_answer, counter_in}
use Rattle.gateway_core.specs.Step.{device_teach_line, with_mode, Cause, Need, MayFailFor}
use Rattle.gateway_core.specs.private.Failures.{cause_in, cause_of}
use Rattle.gateway_core.specs.Run.{failure_text}
use Rattle.gateway_core.specs.Handling.{HandlerValue}

-- the effect of an input in the code: the answer, without the explanation, the disposition of a packet, and the mode
-- that is set, if any
pub record HandlerEffect : Type 0 where
  pub answer : Answer
  pub disposition : Option Disposition
  pub mode : Option Mode

-- what is done has the answer and disposition of the effect, and sets its mode
abbrev pub MatchesEffect : HandlerEffect → Effect → Type 0
MatchesEffect done effect =
    (done.answer ≡ unexplained_answer effect) × (done.disposition ≡ effect.disposition) × (done.mode ≡ effect.mode)

-- the state that the handler knows, if these are the devices
abbrev pub state_of : {S : Type 0} → HandlerValue S → Devices → State
state_of v devices = record { base = v.base; mode = v.mode; counts = v.counts; devices = devices }

module _ (old new : DeviceStoreState) (devices : Devices) where
  -- the update, if any, is committed
  abbrev pub IsUpdateCommitted : Option DeviceUpdate → Type 0
  IsUpdateCommitted None = Keeps old new devices
  IsUpdateCommitted (Some update) = Commits new update devices

  -- the call that commits failed, and may fail for this cause; if there was nothing to write, nothing is pending
  abbrev pub IsPending : Need → Cause → Option DeviceUpdate → Type 0
  IsPending need cause None = MayFailFor need cause × Keeps old new devices
  IsPending need cause (Some update) = LeavesPending old new update devices

  -- the effect happens, or the input fails
  abbrev pub AppliesOrFails : Effect → Result HandlerEffect Failure → Type 0
  AppliesOrFails effect (Ok done) = MatchesEffect done effect × IsUpdateCommitted effect.update
  AppliesOrFails effect (Err (BeforeCommit fault)) = MayFailFor effect.need (cause_of fault) × Keeps old new devices
  AppliesOrFails effect (Err (AtCommit fault)) = IsPending effect.need (cause_of fault) effect.update

-- the effect, by what the handler knows, happens or fails; it is not counted yet, and its mode is not set
pub record Attempts {S : Type 0} (stored : S → DeviceStoreState) (old : HandlerValue S) (effect : State → Effect)
    (result : Result HandlerEffect Failure) (new : HandlerValue S) : Type 0 where
  pub base : new.base ≡ old.base
  pub mode : new.mode ≡ old.mode
  pub counts : new.counts ≡ old.counts
  pub clean : (stored new.registry).honest → (stored old.registry).honest
  pub reopenable : (stored new.registry).honest → (stored old.registry).reopenable
      → (stored new.registry).reopenable
  pub commits : (stored new.registry).honest
      → AtMostMoreCommits 1 (stored old.registry).commits (stored new.registry).commits
  pub applies_or_fails : (stored new.registry).honest → (devices : Devices) → (stored old.registry).holds devices
      → AppliesOrFails (stored old.registry) (stored new.registry) devices (effect (state_of old devices)) result

-- ---- learning and forgetting a device

-- a reply to the telegram, if it may get one, can be made for this outcome of this sender
abbrev pub HasReplyCodeIfQuery : Teach → (id : ℕ) → Outcome → Type 0
HasReplyCodeIfQuery (FourByte query) id outcome = (id ≡ query.id) × IsSome (four_byte_reply_code outcome)
HasReplyCodeIfQuery (Ute query) id outcome = (id ≡ query.id) × IsSome (ute_reply_code outcome)
HasReplyCodeIfQuery kind id outcome = Unit {0}

-- what is committed is reported with this line
abbrev pub MatchesTeachLine : TeachLine → Verdict × List ℕ → Type 0
MatchesTeachLine line committed =
    (committed.0.id ≡ line.id) × (committed.0.outcome ≡ line.outcome)
    × (committed.1 ≡ text (TeachOf line))

-- only the registry has changed, and this holds for the devices that it had
pub record ChangesOnlyRegistry {S : Type 0} (stored : S → DeviceStoreState) (old : HandlerValue S)
    (IsSo : Devices → Type 0)
    (new : HandlerValue S) : Type 0 where
  pub same : new ≡ record old { registry = new.registry }
  pub clean : (stored new.registry).honest → (stored old.registry).honest
  pub reopenable : (stored new.registry).honest → (stored old.registry).reopenable
      → (stored new.registry).reopenable
  pub commits : (stored new.registry).honest
      → AtMostMoreCommits 1 (stored old.registry).commits (stored new.registry).commits
  pub result_for_devices : (stored new.registry).honest → (devices : Devices) → (stored old.registry).holds devices
      → IsSo devices

abbrev pub ReportsLearnedIfCommitted : Device → Result (Option (Verdict × List ℕ)) Failure → Type 0
ReportsLearnedIfCommitted known (Ok (Some committed)) = MatchesTeachLine (device_teach_line known Accepted) committed
ReportsLearnedIfCommitted known result = Unit {0}

abbrev pub ReportsForgottenIfCommitted : TeachLine → Result (Verdict × List ℕ) Failure → Type 0
ReportsForgottenIfCommitted line (Ok committed) = MatchesTeachLine line committed
ReportsForgottenIfCommitted line result = Unit {0}

module _ (old new : DeviceStoreState) (devices : Devices) where
  -- a failure leaves what was known, and perhaps the update, if the call that commits it failed
  abbrev pub FailsToUpdate : DeviceUpdate → Failure → Type 0
  FailsToUpdate update (BeforeCommit fault) = Keeps old new devices
  FailsToUpdate update (AtCommit fault) = LeavesPending old new update devices

  -- a device is committed, or the registry is full, or the input fails
  abbrev pub LearnsOrFails : Device → Result (Option (Verdict × List ℕ)) Failure → Type 0
  LearnsOrFails known (Ok (Some committed)) =
      (is_full_for devices known.id ≡ false) × Commits new (learn_update known) devices
  LearnsOrFails known (Ok None) = (is_full_for devices known.id ≡ true) × Keeps old new devices
  LearnsOrFails known (Err (BeforeCommit fault)) = Keeps old new devices
  LearnsOrFails known (Err (AtCommit fault)) =
      MatchBool (is_full_for devices known.id) (Keeps old new devices)
      (LeavesPending old new (learn_update known) devices)

  -- the forgetting of a sender is committed, or the input fails
  abbrev pub ForgetsOrFails : (id : ℕ) → Result (Verdict × List ℕ) Failure → Type 0
  ForgetsOrFails id (Ok committed) = Commits new (forget_update id) devices
  ForgetsOrFails id (Err failure) = FailsToUpdate (forget_update id) failure

-- a device is learned
pub record TriesToLearn {S : Type 0} (stored : S → DeviceStoreState) (old : HandlerValue S) (known : Device)
    (result : Result (Option (Verdict × List ℕ)) Failure) (new : HandlerValue S) : Type 0 where
  pub reported : ReportsLearnedIfCommitted known result
  pub changes_only_registry : ChangesOnlyRegistry stored old
      (λ devices. LearnsOrFails (stored old.registry) (stored new.registry) devices known result) new

-- a sender is forgotten, and this line reports it
pub record TriesToForget {S : Type 0} (stored : S → DeviceStoreState) (old : HandlerValue S) (line : TeachLine)
    (result : Result (Verdict × List ℕ) Failure) (new : HandlerValue S) : Type 0 where
  pub reported : ReportsForgottenIfCommitted line result
  pub changes_only_registry : ChangesOnlyRegistry stored old
      (λ devices. ForgetsOrFails (stored old.registry) (stored new.registry) devices line.id result) new

-- ---- the answer and the state

-- the answer to a result or a failure, before its packet is explained
abbrev pub unexplained_answer_from : Result HandlerEffect Failure → Answer
unexplained_answer_from (Ok done) = done.answer
unexplained_answer_from (Err failure) = text_answer (failure_text (cause_in failure))

-- the disposition of a result or a failure
abbrev pub disposition_or_failed : Result HandlerEffect Failure → Option Disposition
disposition_or_failed (Ok done) = done.disposition
disposition_or_failed (Err failure) = Some (without_device why.Failed)

-- the answer to an input, with the line that explains it
abbrev pub explained_answer_to : Input → Result HandlerEffect Failure → Answer
explained_answer_to input tried =
    with_packet_line (packet_line_for input (disposition_or_failed tried)) (unexplained_answer_from tried)

-- the counters after a result or a failure
abbrev pub counts_from : Counts → Result HandlerEffect Failure → Counts
counts_from counts (Ok done) = increment_if_any counts (counter_in done.disposition)
counts_from counts (Err failure) = increment counts count.Failed

-- the mode after a result or a failure
abbrev pub mode_from : Mode → Result HandlerEffect Failure → Mode
mode_from mode (Ok done) = with_mode mode done.mode
mode_from mode (Err failure) = mode

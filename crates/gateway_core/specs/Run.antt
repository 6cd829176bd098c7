-- Runs: sequences of inputs, each of which is applied or fails.
use Rattle.std.specs.Prelude.{◌≡◌, IsSome, ℕ, ◌+◌, ◌^◌, ◌<◌, List, [], ◌∷◌, map, Option, Some, None}
use Rattle.gateway_state.specs.declared.counts.Counter.TheVariants as count
use Rattle.gateway_state.specs.declared.error_reason.ErrorReason.TheVariants as error
use Rattle.gateway_state.specs.declared.handling_reason.HandlingReason.TheVariants as why
use Rattle.gateway_state.specs.Counts.{increment, saturated_sum}
use Rattle.json_lines.specs.Lines.{Error, text}
use Rattle.learned_devices.specs.Faults.{out_of_memory, store_failed}
use Rattle.gateway_core.specs.Dispositions.{without_device}
use Rattle.gateway_core.specs.Step.{State, Input, Answer, with_packet_line, packet_line_for, text_answer}
use Rattle.gateway_core.specs.Step.{answer_to_applied_input, update_of, need_of_memory_or_store}
use Rattle.gateway_core.specs.Step.{state_after_applied_input, Cause, Memory, Store, MayFailFor}

-- An input is applied, or it fails: `FailedAtCommit` if the call of the device store that commits its update failed,
-- whether that call had written yet or not, and `Failed` otherwise.
pub data InputResult : Type 0 where
  Applied : InputResult
  Failed : (cause : Cause) → InputResult
  FailedAtCommit : (cause : Cause) → InputResult

-- the results that an input may have
abbrev pub MayHaveResult : State → Input → InputResult → Type 0
MayHaveResult state input Applied = Unit {0}
MayHaveResult state input (Failed cause) = MayFailFor (need_of_memory_or_store state input) cause
MayHaveResult state input (FailedAtCommit cause) = IsSome (update_of state input)

abbrev pub failure_text : Cause → List ℕ
failure_text Memory = text (Error (error.Failed out_of_memory))
failure_text Store = text (Error (error.Failed store_failed))

-- the answer to a failed input: about its sender it shows only what the telegram contains
abbrev pub failure_answer : Input → Cause → Answer
failure_answer input cause =
    with_packet_line (packet_line_for input (Some (without_device why.Failed))) (text_answer (failure_text cause))

-- the answer to an input with this result
abbrev pub answer_for_result : State → Input → InputResult → Answer
answer_for_result state input Applied = answer_to_applied_input state input
answer_for_result state input (Failed cause) = failure_answer input cause
answer_for_result state input (FailedAtCommit cause) = failure_answer input cause

-- the state after a failed input: only the counter of failed inputs changes
abbrev pub state_after_failure : State → State
state_after_failure state = record state { counts = increment state.counts count.Failed }

-- the state after an input with this result
abbrev pub state_after_result : State → Input → InputResult → State
state_after_result state input Applied = state_after_applied_input state input
state_after_result state input (Failed cause) = state_after_failure state
state_after_result state input (FailedAtCommit cause) = state_after_failure state

-- the inputs are handled one after another, with these results and answers
abbrev pub Run : (old : State) → List Input → List InputResult → List Answer → (new : State) → Type 0
Run old [] [] [] new = new ≡ old
Run old (input ∷ inputs) (result ∷ results) (answer ∷ answers) new =
    MayHaveResult old input result × (answer ≡ answer_for_result old input result)
    × Run (state_after_result old input result) inputs results answers new
Run old inputs results answers new = ⊥

-- why an input failed, if it did
abbrev pub failure_cause : InputResult → Option Cause
failure_cause Applied = None
failure_cause (Failed cause) = Some cause
failure_cause (FailedAtCommit cause) = Some cause

-- the same inputs fail, each for the same cause, whether at its commit or before
abbrev pub FailAlike : (results others : List InputResult) → Type 0
FailAlike results others = map failure_cause results ≡ map failure_cause others

-- if the same inputs fail for the same causes, the answers and the last state are the same
abbrev pub SameFailuresGiveSameAnswers : Type 0
SameFailuresGiveSameAnswers =
    (old left right : State) (inputs : List Input) (results others : List InputResult) (answers more : List Answer)
    → FailAlike results others
    → Run old inputs results answers left → Run old inputs others more right → (answers ≡ more) × (left ≡ right)

-- how many of the results are failures
abbrev pub failure_count : List InputResult → ℕ
failure_count [] = 0
failure_count (Applied ∷ results) = failure_count results
failure_count (Failed cause ∷ results) = 1 + failure_count results
failure_count (FailedAtCommit cause ∷ results) = 1 + failure_count results

-- the counter of failed inputs is incremented once for each of them, and by nothing else
abbrev pub FailuresAreCounted : Type 0
FailuresAreCounted = (old new : State) (inputs : List Input) (results : List InputResult) (answers : List Answer) →
    Run old inputs results answers new → old.counts.refused < 2 ^ 64
    → new.counts.refused ≡ saturated_sum old.counts.refused (failure_count results)

-- Runs of many inputs.
use Rattle.std.proofs.Common.{◌≡◌, List, [], ◌∷◌, ◌++◌, length, refl, sym, ap, ◌∙◌, arith}
use Rattle.gateway_core.specs.Step.{State, Input, Answer}
use Rattle.gateway_core.specs.Run.{InputResult, Applied, Run, failure_cause, failure_answer, answer_for_result}
use Rattle.gateway_core.specs.Run.{state_after_result, SameFailuresGiveSameAnswers}
use Rattle.gateway_core.specs.Prefixes.{state_after_run}

-- each input of a run has a result, and these determine the last state
pub run-last : (old new : State) (inputs : List Input) (results : List InputResult) (answers : List Answer)
    → Run old inputs results answers new
    → (length inputs ≡ length results) × (new ≡ state_after_run old inputs results)
run-last old new [] [] [] run = (refl, run)
run-last old new (input ∷ inputs) (result ∷ results) (answer ∷ answers) run =
    let rest = run-last (state_after_result old input result) new inputs results answers run.2 in
    (omega (arith, rest.0), rest.1)
run-last old new inputs results answers run = absurd run

pub state_after_run-append : (state : State) (inputs others : List Input) (results more : List InputResult)
    → length inputs ≡ length results
    → state_after_run state (inputs ++ others) (results ++ more)
    ≡ state_after_run (state_after_run state inputs results) others more
state_after_run-append state [] others [] more as_many = refl
state_after_run-append state (input ∷ inputs) others (result ∷ results) more as_many =
    state_after_run-append (state_after_result state input result) inputs others results more (omega (arith, as_many))
state_after_run-append state inputs others results more as_many = absurd (omega (arith, as_many))

-- two consecutive runs are one
pub run-append : (old mid new : State) (inputs more : List Input) (results others : List InputResult)
    (answers after : List Answer)
    → Run old inputs results answers mid → Run mid more others after new
    → Run old (inputs ++ more) (results ++ others) (answers ++ after) new
run-append old mid new [] more [] others [] after first second = rw first at second
run-append old mid new (input ∷ inputs) more (result ∷ results) others (answer ∷ answers) after first second = (
  first.0,
  first.1,
  run-append (state_after_result old input result) mid new inputs more results others answers after first.2 second,
)
run-append old mid new inputs more results others answers after first second = absurd first

-- the first inputs of a run are a run, and the next input is answered after it
pub run-prefix : (old new : State) (before after : List Input) (input : Input) (results more : List InputResult)
    (result : InputResult) (answers later : List Answer) (answer : Answer)
    → length before ≡ length results → length before ≡ length answers
    → Run old (before ++ input ∷ after) (results ++ result ∷ more) (answers ++ answer ∷ later) new
    → Run old before results answers (state_after_run old before results)
    × (answer ≡ answer_for_result (state_after_run old before results) input result)
run-prefix old new [] after input [] more result [] later answer as_many_results as_many_answers run = (refl, run.1)
run-prefix old new (first ∷ before) after input (its ∷ results) more result (one ∷ answers) later answer
    as_many_results as_many_answers run =
    let rest = run-prefix (state_after_result old first its) new before after input results more result answers later
    answer (omega (arith, as_many_results)) (omega (arith, as_many_answers)) run.2 in
    ((run.0, run.1, rest.0), rest.1)
run-prefix old new before after input results more result answers later answer as_many_results as_many_answers run =
    absurd (omega (arith, as_many_results, as_many_answers))

-- the answer and the next state depend only on the cause
same-cause : (state : State) (input : Input) (result other : InputResult) → failure_cause result ≡ failure_cause other
    → (answer_for_result state input result ≡ answer_for_result state input other)
    × (state_after_result state input other ≡ state_after_result state input result)
same-cause state input Applied Applied same = (refl, refl)
same-cause state input Applied failed same = absurd cc
same-cause state input failed Applied same = absurd cc
same-cause state input result other same = (ap (failure_answer input) (cc), refl)

pub same_failures_give_same_answers : SameFailuresGiveSameAnswers
same_failures_give_same_answers old left right [] [] [] [] [] alike first second = (refl, first ∙ sym second)
same_failures_give_same_answers old left right (input ∷ inputs) (result ∷ results) (other ∷ others)
    (answer ∷ answers) (another ∷ more) alike first second =
    let same = same-cause old input result other (cc) in
    let rest = same_failures_give_same_answers (state_after_result old input result) left right inputs results others
    answers more (cc) first.2 (rw same.1 at second.2) in
    (let head = first.1 ∙ same.0 ∙ sym second.1 in cc, rest.1)
same_failures_give_same_answers old left right inputs results others answers more alike first second = absurd (search)

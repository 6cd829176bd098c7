use Rattle.gateway_core.proofs.RunLemmas.{same_failures_give_same_answers}
use Rattle.gateway_core.proofs.laws.same_failures_give_same_answers.Goals as goal

pub returns : goal.returns
returns c = same_failures_give_same_answers

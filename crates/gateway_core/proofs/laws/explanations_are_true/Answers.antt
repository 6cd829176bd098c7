use Rattle.gateway_core.proofs.ExplainingLemmas.{explanations_are_true}
use Rattle.gateway_core.proofs.laws.explanations_are_true.Goals as goal

pub returns : goal.returns
returns c = explanations_are_true

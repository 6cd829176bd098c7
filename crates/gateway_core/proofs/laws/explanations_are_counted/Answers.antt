use Rattle.gateway_core.proofs.CountLemmas.{explanations_are_counted}
use Rattle.gateway_core.proofs.laws.explanations_are_counted.Goals as goal

pub returns : goal.returns
returns c = explanations_are_counted

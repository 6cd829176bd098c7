use Rattle.gateway_core.proofs.CountLemmas.{failures_are_counted}
use Rattle.gateway_core.proofs.laws.failures_are_counted.Goals as goal

pub returns : goal.returns
returns c = failures_are_counted

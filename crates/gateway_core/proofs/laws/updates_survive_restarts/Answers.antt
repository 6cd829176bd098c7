use Rattle.gateway_core.proofs.SessionLemmas.{updates_survive_restarts}
use Rattle.gateway_core.proofs.laws.updates_survive_restarts.Goals as goal

pub returns : goal.returns
returns c = updates_survive_restarts

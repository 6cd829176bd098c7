use Rattle.gateway_core.proofs.CallLemmas.{calls_are_a_run}
use Rattle.gateway_core.proofs.laws.calls_are_a_run.Goals as goal

pub returns : goal.returns
returns g c = calls_are_a_run g.S.DeviceStore.store_state

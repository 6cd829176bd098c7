use Rattle.gateway_core.proofs.SessionLemmas.{closed_session_leaves_last}
use Rattle.gateway_core.proofs.laws.closed_session_leaves_last.Goals as goal

pub returns : goal.returns
returns g c = closed_session_leaves_last g.S.DeviceStore.store_state

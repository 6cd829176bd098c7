use Rattle.gateway_core.proofs.SessionLemmas.{crash_in_input_ends_session}
use Rattle.gateway_core.proofs.laws.crash_in_input_ends_session.Goals as goal

pub returns : goal.returns
returns g c = crash_in_input_ends_session g.S.DeviceStore.store_state

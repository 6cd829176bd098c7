use Rattle.gateway_core.proofs.SessionLemmas.{crash_after_calls_ends_session}
use Rattle.gateway_core.proofs.laws.crash_after_calls_ends_session.Goals as goal

pub returns : goal.returns
returns g c = crash_after_calls_ends_session g.S.DeviceStore.store_state

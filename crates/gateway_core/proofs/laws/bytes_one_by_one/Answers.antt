use Rattle.gateway_core.proofs.CallLemmas.{bytes_one_by_one}
use Rattle.gateway_core.proofs.laws.bytes_one_by_one.Goals as goal

pub returns : goal.returns
returns g c = bytes_one_by_one g.S.DeviceStore.store_state

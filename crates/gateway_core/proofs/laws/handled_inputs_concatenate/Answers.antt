use Rattle.gateway_core.proofs.HandlesLemmas.{handles-nothing, handles-append}
use Rattle.gateway_core.proofs.laws.handled_inputs_concatenate.Goals as goal

pub returns-clause-nothing : goal.returns-clause-nothing
returns-clause-nothing g c = handles-nothing g.S.DeviceStore.store_state

pub returns-clause-join : goal.returns-clause-join
returns-clause-join g c = handles-append g.S.DeviceStore.store_state

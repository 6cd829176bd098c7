use Rattle.gateway_core.proofs.ChunkLemmas.{inputs_of-append, new_packets-rest}
use Rattle.gateway_core.proofs.laws.inputs_of_appended_events.Goals as goal

pub returns-clause-items : goal.returns-clause-items
returns-clause-items c = inputs_of-append

pub returns-clause-rest : goal.returns-clause-rest
returns-clause-rest c = new_packets-rest

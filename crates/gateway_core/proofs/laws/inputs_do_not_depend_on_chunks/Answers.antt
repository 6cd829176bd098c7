use Rattle.gateway_core.proofs.ChunkLemmas.{cuts_do_not_matter}
use Rattle.gateway_core.proofs.laws.inputs_do_not_depend_on_chunks.Goals as goal

pub returns : goal.returns
returns c = cuts_do_not_matter

use Rattle.gateway_core.proofs.ChunkLemmas.{answers_do_not_depend_on_chunks}
use Rattle.gateway_core.proofs.laws.answers_do_not_depend_on_chunks.Goals as goal

pub returns : goal.returns
returns c = answers_do_not_depend_on_chunks

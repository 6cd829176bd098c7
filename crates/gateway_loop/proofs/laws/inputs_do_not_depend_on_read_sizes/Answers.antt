use Rattle.gateway_loop.proofs.CutLemmas.{inputs_do_not_depend_on_read_sizes}
use Rattle.gateway_loop.proofs.laws.inputs_do_not_depend_on_read_sizes.Goals as goal

pub returns : goal.returns
returns c = inputs_do_not_depend_on_read_sizes

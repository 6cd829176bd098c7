use Rattle.std.proofs.Common.{ap, ◌∙◌}
use Rattle.esp3_frames.specs.PacketsAndRest.{packets_and_rest}
use Rattle.esp3_resync.proofs.PacketsAndRestLemmas.{packets_and_rest-empty}
use Rattle.esp3_resync.proofs.framer.Framer.new.Goals as goal

pub invariant_of-result : goal.invariant_of-result
invariant_of-result c = c.in_ok-new.ensures

pub returns : goal.returns
returns c = ap packets_and_rest c.in_ok-new.ensures ∙ packets_and_rest-empty

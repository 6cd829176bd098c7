use Rattle.std.proofs.Common.{arith}
use Rattle.esp3_frames.proofs.ForCallers.{check_nil}
use Rattle.esp3_resync.proofs.window.Window.new.Goals as goal

pub invariant_of-result : goal.invariant_of-result
invariant_of-result c = grind (arith, check_nil)

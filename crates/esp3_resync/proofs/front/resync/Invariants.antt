use Rattle.std.proofs.Common.{◌≡◌, length}
use Rattle.esp3_frames.specs.PacketsAndRest.{packets_and_rest}
use Rattle.esp3_resync.proofs.front.resync.Given as goal

abbrev pub invariant-loop-front : goal.invariant-loop-front
invariant-loop-front l = packets_and_rest l.window ≡ packets_and_rest l.fn.window

abbrev pub decreases-loop-front : goal.decreases-loop-front
decreases-loop-front l = length l.window

use Rattle.std.proofs.Common.{arith, length-append}
use Rattle.std.proofs.Math.Seq.{take_at}
use Rattle.std.proofs.lemmas.List.{take_all}
use Rattle.esp3_resync.proofs.window.Window.extend.Goals as goal

pub invariant_of-self : goal.invariant_of-self
invariant_of-self c = grind (arith, take_at, take_all, length-append)

use Rattle.std.proofs.Common.{arith}
use Rattle.esp3_resync.proofs.framer.Framer.push.Goals as goal

pub returns : goal.returns
returns c = grind arith

use Rattle.std.proofs.Common.{arith}
use Rattle.esp3_frames.proofs.CheckLemmas.{check_second}
use Rattle.esp3_frames.proofs.check.check8_between.Goals as goal

pub returns-clause-part : goal.returns-clause-part
returns-clause-part c m w before all len = grind (arith, check_second m w)

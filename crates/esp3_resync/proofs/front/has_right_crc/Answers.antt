use Rattle.std.proofs.Common.{arith}
use Rattle.esp3_resync.proofs.HeaderLemmas.{front-right, front-wrong}
use Rattle.esp3_resync.proofs.front.has_right_crc.Goals as goal

pub returns-clause-right : goal.returns-clause-right
returns-clause-right c = grind (arith, front-right)

pub returns-clause-wrong : goal.returns-clause-wrong
returns-clause-wrong c = grind (arith, front-wrong)

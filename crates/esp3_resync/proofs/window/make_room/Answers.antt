use Rattle.std.proofs.Common.{arith}
use Rattle.esp3_resync.proofs.window.make_room.Goals as goal

pub returns-clause-same : goal.returns-clause-same
returns-clause-same c = λ i within. grind (arith, c.copy_within.ensures.by_index.0 i 0)

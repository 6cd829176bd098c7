use Rattle.std.proofs.Common.{arith}
use Rattle.esp3_resync.proofs.PacketsAndRestLemmas.{whole_ready, partial_unready, rest_of_framer}
use Rattle.esp3_resync.proofs.HeaderLemmas.{is_whole, not_whole}
use Rattle.esp3_resync.proofs.framer.Framer.is_ready.Goals as goal

pub returns-in-WholePacket : goal.returns-in-WholePacket
returns-in-WholePacket c = grind (arith, is_whole, whole_ready, rest_of_framer)

pub returns-in_default : goal.returns-in_default
returns-in_default c = grind (arith, not_whole, partial_unready, rest_of_framer)

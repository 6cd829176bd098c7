use Rattle.std.proofs.Common.{arith, length-take, length-drop}
use Rattle.esp3_resync.proofs.PacketsAndRestLemmas.{whole_ready, partial_unready}
use Rattle.esp3_resync.proofs.HeaderLemmas.{is_whole, not_whole, whole_parts, whole_taken}
use Rattle.esp3_resync.proofs.framer.Framer.move_ready.Goals as goal

pub returns-in_default : goal.returns-in_default
returns-in_default c = grind (arith, not_whole, partial_unready)

pub skip-requires : goal.skip-requires
skip-requires c = grind (arith, is_whole, whole_parts)

pub move_into-requires : goal.move_into-requires
move_into-requires c =
    let self = c.self.inside in
    let whole = is_whole self.front self.window c.in-WholePacket.header c.in-WholePacket.is c.self.invariant in
    grind (arith, whole_parts self.window c.in-WholePacket.header whole, length-drop)

pub skip-requires-2 : goal.skip-requires-2
skip-requires-2 c =
    let self = c.self.inside in
    let whole = is_whole self.front self.window c.in-WholePacket.header c.in-WholePacket.is c.self.invariant in
    grind (arith, whole_parts self.window c.in-WholePacket.header whole, length-drop)

pub returns-clause-ready : goal.returns-clause-ready
returns-clause-ready c = grind (arith, is_whole, whole_ready)

pub returns-clause-taken : goal.returns-clause-taken
returns-clause-taken c =
    let self = c.self.inside in
    let h = c.in-WholePacket.header in
    let whole = is_whole self.front self.window h c.in-WholePacket.is c.self.invariant in
    let taken = whole_taken self.window h whole c.announced_data_len.result c.announced_data_len.ensures in
    grind (arith, taken, whole_parts self.window h whole, length-take, length-drop)

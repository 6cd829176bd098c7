use Rattle.std.proofs.Common.{arith, length-take, length-drop, append-nil}
use Rattle.esp3_resync.proofs.PacketsAndRestLemmas.{prefix_continued, longer_unready, unready_before}
use Rattle.esp3_resync.proofs.HeaderLemmas.{held_bytes}
use Rattle.esp3_resync.proofs.framer.Framer.push_until_ready.Goals as goal

pub loop-count-init : goal.loop-count-init
loop-count-init c = grind (arith, held_bytes, append-nil)

pub returns-then-is_ready-clause-taken : goal.returns-then-is_ready-clause-taken
returns-then-is_ready-clause-taken c = grind (arith, prefix_continued)

pub returns-then-is_ready-clause-before : goal.returns-then-is_ready-clause-before
returns-then-is_ready-clause-before c = λ k below.
    let loop = c.loop-count in
    longer_unready c.args.self.now.rest c.args.bytes.now loop.count loop.self loop.invariant.taken loop.invariant.none
    c.push_some-count.result k c.push_some-count.ensures.before below

pub loop-count-preserved : goal.loop-count-preserved
loop-count-preserved c = grind (arith, length-take, length-drop, prefix_continued)

pub returns-clause-before : goal.returns-clause-before
returns-clause-before c = grind (arith, unready_before)

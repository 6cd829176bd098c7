use Rattle.std.proofs.Common.{◌∙◌, arith}
use Rattle.esp3_frames.proofs.ForCallers.{frames-never}
use Rattle.esp3_resync.proofs.PacketsAndRestLemmas.{frames_at_sync}
use Rattle.esp3_resync.proofs.front.resync.Goals as goal

pub skip_to_next_sync-requires : goal.skip_to_next_sync-requires
skip_to_next_sync-requires c = grind (arith, frames-never)

pub loop-front-smaller : goal.loop-front-smaller
loop-front-smaller c =
    (frames_at_sync c.loop-front.window c.skip_to_next_sync.new.self c.in-None.ensures c.skip_to_next_sync.ensures).1

pub loop-front-preserved : goal.loop-front-preserved
loop-front-preserved c =
    (frames_at_sync c.loop-front.window c.skip_to_next_sync.new.self c.in-None.ensures c.skip_to_next_sync.ensures).0
    ∙ c.loop-front.invariant

use Rattle.std.proofs.Common.{◌∙◌, arith}
use Rattle.std.proofs.lemmas.Bool.{OnFalse_at}
use Rattle.esp3_frames.proofs.ForCallers.{frames-never}
use Rattle.esp3_resync.proofs.PacketsAndRestLemmas.{frames_at_sync}
use Rattle.esp3_resync.proofs.front.resync_whole.Goals as goal

pub skip_to_next_sync-requires : goal.skip_to_next_sync-requires
skip_to_next_sync-requires c = grind (arith, frames-never)

pub returns-clause-packets : goal.returns-clause-packets
returns-clause-packets c =
    let never = OnFalse_at c.if-has_right_crc.false c.has_right_crc.ensures.wrong in
    c.resync.ensures.packets
    ∙ (frames_at_sync c.args.window.now c.skip_to_next_sync.new.self never c.skip_to_next_sync.ensures).0

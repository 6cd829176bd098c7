use Rattle.std.proofs.Common.{sym, arith}
use Rattle.std.proofs.lemmas.Grind.{common_steps}
use Rattle.esp3_frames.proofs.CheckLemmas.{check_nil, crc_of_appended_byte}
use Rattle.esp3_frames.proofs.check.check8.Goals as goal

pub loop-byte-init : goal.loop-byte-init
loop-byte-init c = sym check_nil

pub loop-byte-preserved : goal.loop-byte-preserved
loop-byte-preserved c = grind (arith, common_steps, crc_of_appended_byte)

use Rattle.std.proofs.Common.{arith}
use Rattle.std.proofs.lemmas.Bool.Decides.{nat_tests}
use Rattle.esp3_frames.proofs.ZerosLemmas.{zeros_by_table, zeros-still, advanced}
use Rattle.esp3_frames.proofs.check.crc_after_zeros.Goals as goal

pub returns-then-place : goal.returns-then-place
returns-then-place c = grind (arith, zeros-still)

pub returns : goal.returns
unfolding advanced
returns c = grind (arith, nat_tests, zeros_by_table)

use Rattle.std.proofs.Common.{arith}
use Rattle.std.proofs.lemmas.Bool.Decides.{nat_tests}
use Rattle.std.proofs.lemmas.List.{nil_from_length}
use Rattle.esp3_frames.proofs.ForCallers.{front-short, front-bad}
use Rattle.esp3_resync.proofs.front.front.Goals as goal

pub returns-then-may_begin : goal.returns-then-may_begin
returns-then-may_begin c = grind (arith, nat_tests, front-short)

pub returns-else-may_begin : goal.returns-else-may_begin
returns-else-may_begin c = grind (arith, front-short)

pub returns-in_default-read_header : goal.returns-in_default-read_header
returns-in_default-read_header c = grind (arith, front-bad)

pub returns-then-is_empty : goal.returns-then-is_empty
returns-then-is_empty c = grind (arith, nat_tests, nil_from_length)

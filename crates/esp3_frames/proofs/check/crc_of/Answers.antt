use Rattle.std.proofs.Common.{arith}
use Rattle.esp3_frames.proofs.CheckLemmas.{table_at}
use Rattle.esp3_frames.proofs.check.crc_of.Goals as goal

pub returns : goal.returns
returns c = table_at c.args.b (omega arith)

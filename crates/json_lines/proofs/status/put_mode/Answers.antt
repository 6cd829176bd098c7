use Rattle.std.proofs.Common.{rules}
use Rattle.json_lines.proofs.status.put_mode.Goals as goal

pub returns-in-LearnAnswer : goal.returns-in-LearnAnswer
returns-in-LearnAnswer g c = search rules

use Rattle.std.proofs.Common.{rules}
use Rattle.json_lines.proofs.done.done_line.Goals as goal

pub returns : goal.returns
returns c = search rules

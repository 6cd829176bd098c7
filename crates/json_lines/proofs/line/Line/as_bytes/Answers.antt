use Rattle.std.proofs.Common.{rules}
use Rattle.json_lines.proofs.line.Line.as_bytes.Goals as goal

pub returns : goal.returns
returns c = search rules

use Rattle.std.proofs.Common.{rules}
use Rattle.json_lines.proofs.error_lines.error_line.Goals as goal

pub returns-in-Order-Syntax : goal.returns-in-Order-Syntax
returns-in-Order-Syntax c = search rules

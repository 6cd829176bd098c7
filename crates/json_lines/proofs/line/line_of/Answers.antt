use Rattle.std.proofs.Common.{rules}
use Rattle.json_lines.proofs.line.line_of.Goals as goal

pub returns-in_ok-push-in-Ok : goal.returns-in_ok-push-in-Ok
returns-in_ok-push-in-Ok g c = search rules

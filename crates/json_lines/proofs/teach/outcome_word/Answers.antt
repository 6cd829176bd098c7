use Rattle.std.proofs.Common.{rules}
use Rattle.json_lines.proofs.teach.outcome_word.Goals as goal

pub returns-in-Full : goal.returns-in-Full
returns-in-Full c = search rules

use Rattle.json_lines.proofs.TeachTextOutcome.{of_teach_lines}
use Rattle.json_lines.proofs.laws.teach_text_determines_outcome.Goals as goal

pub returns : goal.returns
returns c = of_teach_lines

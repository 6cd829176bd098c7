use Rattle.json_lines.proofs.TeachTextsInjective.{one_teach_line}
use Rattle.json_lines.proofs.laws.teach_texts_are_injective.Goals as goal

pub returns : goal.returns
returns c = one_teach_line

use Rattle.json_lines.proofs.ReasonWords.{one_why}
use Rattle.json_lines.proofs.laws.reason_words_are_injective.Goals as goal

pub returns : goal.returns
returns c = one_why

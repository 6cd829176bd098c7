use Rattle.gateway_core.proofs.ReportingLemmas.{teach_lines_are_true}
use Rattle.gateway_core.proofs.laws.teach_lines_are_true.Goals as goal

pub returns : goal.returns
returns c = teach_lines_are_true

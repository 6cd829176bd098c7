use Rattle.std.proofs.lemmas.Result.{IfOk-weaker}
use Rattle.json_lines.proofs.LineTexts.{status_written}
use Rattle.json_lines.proofs.status.status_line.Goals as goal

pub returns : goal.returns
returns c = IfOk-weaker c.line_of.result _ _ (status_written c.args.counts.now c.args.mode) c.line_of.ensures

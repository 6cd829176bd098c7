use Rattle.std.proofs.lemmas.Result.{IfOk-weaker}
use Rattle.json_lines.proofs.LineTexts.{list_written}
use Rattle.json_lines.proofs.devices.list_end.Goals as goal

pub returns : goal.returns
returns c = IfOk-weaker c.line_of.result _ _ (list_written c.args.count) c.line_of.ensures

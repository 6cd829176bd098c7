use Rattle.std.proofs.lemmas.Result.{IfOk-weaker}
use Rattle.json_lines.proofs.LineTexts.{device_written}
use Rattle.json_lines.proofs.devices.device_line.Goals as goal

pub returns : goal.returns
returns c = IfOk-weaker c.line_of.result _ _ (device_written c.args.device.now) c.line_of.ensures

use Rattle.json_lines.specs.Lines.{in_quotes}
use Rattle.json_lines.specs.PacketLines.{reason_word}
use Rattle.json_lines.proofs.PacketTexts.{end_pieces}
use Rattle.json_lines.proofs.packet.put_type_and_why_members.Goals as goal

pub returns-clause-items : goal.returns-clause-items
returns-clause-items c = cc (end_pieces c.args.out.now.items (in_quotes (reason_word c.args.why)))

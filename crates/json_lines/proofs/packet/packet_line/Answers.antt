use Rattle.json_lines.proofs.PacketTexts.{line_pieces}
use Rattle.json_lines.proofs.packet.packet_line.Goals as goal

pub returns : goal.returns
returns c =
    rw (c.put-3.ensures.items, c.put_type_and_why_members.ensures.items, c.put-2.ensures.items)
    (rw (c.put_packet.ensures.items, c.put.ensures.items, c.new-out.ensures)
    (line_pieces c.args.line.now.packet c.args.line.now.why))

use Rattle.json_lines.proofs.PacketTextsInjective.{one_packet_line}
use Rattle.json_lines.proofs.laws.packet_texts_are_injective.Goals as goal

pub returns : goal.returns
returns c = one_packet_line

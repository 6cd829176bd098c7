-- The answer that a reply stands for, as bytes.
use Rattle.std.specs.Prelude.{[]}
use Rattle.std.specs.Option.{option_map}
use Rattle.gateway_core.specs.Desks.{desk_bytes}
use Rattle.json_lines.specs.PacketLines.{packet_text}
use Rattle.gateway_core.specs.Step.{Answer, with_explanation}
use Rattle.gateway_core.specs.declared.handled.HandledPacket.{HandledPacket}
use Rattle.gateway_core.specs.declared.reply.Reply.{Reply}

abbrev pub answer_of : Reply → Answer
answer_of reply =
    record { radio = option_map (λ bytes. bytes.items) reply.radio; explanation = []; desk = desk_bytes reply.desk }

-- the answer to a packet, with the line that explains it
abbrev pub packet_answer : HandledPacket → Answer
packet_answer handled = with_explanation (packet_text handled.line) (answer_of handled.reply)

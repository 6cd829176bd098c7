use Rattle.std.proofs.Common.{refl, sym, ap, ◌∙◌}
use Rattle.esp3_frames.specs.Outcome.{packet_of}
use Rattle.json_lines.specs.PacketLines.{packet_text}
use Rattle.gateway_core.specs.Replies.{answer_of}
use Rattle.gateway_core.specs.Step.{Received, with_explanation, with_packet_line, packet_line_for}
use Rattle.gateway_core.specs.private.Attempts.{disposition_or_failed}
use Rattle.gateway_core.proofs.AttemptLemmas.{handles-attempted, attempts-same_effect}
use Rattle.gateway_core.proofs.handler.Handler.packet.Goals as goal

pub returns-in-Err : goal.returns-in-Err
returns-in-Err g c =
    let packet = packet_of c.args.packet.now in
    let reply = c.finish_packet-reply in
    let none = sym c.read.ensures ∙ c.in-Err.is in
    handles-attempted g.S.DeviceStore.store_state _ _ _ (Received packet) _ _
    (ap (λ l. with_explanation (packet_text l) (answer_of reply.result.0))
    (c.line_without_telegram-line.ensures c.in-Err.fault none)
    ∙ ap (λ a. with_packet_line (packet_line_for (Received packet) a) (answer_of reply.result.0))
    reply.ensures.disposition
    ∙ ap (with_packet_line (packet_line_for (Received packet)
    (disposition_or_failed c.try_non_telegram-tried.result)))
    reply.ensures.answer) reply.ensures.base reply.ensures.mode reply.ensures.counts reply.ensures.registry
    (attempts-same_effect g.S.DeviceStore.store_state _ _ _ _ _
    (λ devices. rw none refl) c.try_non_telegram-tried.ensures)

pub returns : goal.returns
returns g c =
    let packet = packet_of c.args.packet.now in
    let reply = c.finish_packet-reply-2 in
    let telegram = sym c.read.ensures ∙ c.in-Ok.is in
    handles-attempted g.S.DeviceStore.store_state _ _ _ (Received packet) _ _
    (ap (λ l. with_explanation (packet_text l) (answer_of reply.result.0))
    (c.line_of_telegram-line.ensures packet telegram)
    ∙ ap (λ a. with_packet_line (packet_line_for (Received packet) a) (answer_of reply.result.0))
    reply.ensures.disposition
    ∙ ap (with_packet_line (packet_line_for (Received packet)
    (disposition_or_failed c.try_telegram-tried.result)))
    reply.ensures.answer) reply.ensures.base reply.ensures.mode reply.ensures.counts reply.ensures.registry
    (attempts-same_effect g.S.DeviceStore.store_state _ _ _ _ _
    (λ devices. rw telegram refl) c.try_telegram-tried.ensures)

use Rattle.std.proofs.Common.{◌++◌, ap, subst, ◌∙◌}
use Rattle.esp3_frames.specs.Packet.{spelling}
use Rattle.gateway_core.specs.Step.{base_id_request, send_effect}
use Rattle.gateway_core.specs.private.Attempts.{MatchesEffect}
use Rattle.gateway_core.proofs.handler.send.base_id_request_effect.Goals as goal

pub returns : goal.returns
returns c =
    λ asked.
    subst (λ bytes. MatchesEffect c.send_effect.result (send_effect asked bytes))
    (c.in-Ok.ensures.ok ∙ ap (λ held. held ++ spelling base_id_request) c.new-packet.ensures)
    (c.send_effect.ensures asked)

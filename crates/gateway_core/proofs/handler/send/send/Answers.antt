use Rattle.std.proofs.Common.{Some, sym, ap, subst, ◌∙◌}
use Rattle.gateway_core.specs.Step.{send_effect, send_result_effect}
use Rattle.gateway_core.specs.private.Attempts.{MatchesEffect}
use Rattle.gateway_core.proofs.handler.send.send.Goals as goal

pub returns-in-Ok : goal.returns-in-Ok
returns-in-Ok c =
    λ asked.
    subst (λ telegram. MatchesEffect c.send_effect.result (send_result_effect asked telegram))
    (sym (sym c.packet_of.ensures ∙ ap Some c.in-Ok.is))
    (subst (λ bytes. MatchesEffect c.send_effect.result (send_effect asked bytes)) c.packet_of_telegram.ensures
    (c.send_effect.ensures asked))

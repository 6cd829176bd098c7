use Rattle.std.proofs.Common.{sym, ap, ◌∙◌, append-nil}
use Rattle.gateway_core.specs.Step.{text_answer}
use Rattle.gateway_core.proofs.AttemptLemmas.{attempts-unasked}
use Rattle.gateway_core.proofs.handler.Handler.try_status.Goals as goal

pub returns : goal.returns
returns g c =
    rw (← c.self.view_is) (attempts-unasked g.S.DeviceStore.store_state _ _ _
    (λ devices keeps. (
      (
        c.desk_effect.ensures.answer ∙ ap text_answer (c.in_ok-line.ensures ∙ sym (append-nil _)),
        c.desk_effect.ensures.disposition,
        c.desk_effect.ensures.mode,
      ),
      keeps,
    )))

use Rattle.std.proofs.Common.{false, sym, ◌∙◌}
use Rattle.gateway_core.proofs.AttemptLemmas.{attempts-unasked}
use Rattle.gateway_core.proofs.handler.Handler.try_telegram.Goals as goal

pub returns-in-Some : goal.returns-in-Some
returns-in-Some g c =
    let found = rw c.in-Some.is at c.filter_reason.ensures in
    rw (← c.self.view_is)
    (attempts-unasked g.S.DeviceStore.store_state _ _ _
    (λ devices keeps. rw (found.0, ← found.1) (c.ignored_effect.ensures false, keeps)))

pub returns-in-Answer : goal.returns-in-Answer
returns-in-Answer g c =
    let not_filtered = rw c.in_default.is at c.filter_reason.ensures in
    rw (← c.self.view_is)
    (attempts-unasked g.S.DeviceStore.store_state _ _ _
    (λ devices keeps.
    rw (not_filtered, sym c.requires ∙ c.in-Answer.is) (c.ignored_effect-in-Answer.ensures false, keeps)))

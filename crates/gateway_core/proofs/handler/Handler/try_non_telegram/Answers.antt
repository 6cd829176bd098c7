use Rattle.std.proofs.Common.{false}
use Rattle.gateway_core.proofs.AttemptLemmas.{attempts-unasked}
use Rattle.gateway_core.proofs.handler.Handler.try_non_telegram.Goals as goal

pub returns-in-Err : goal.returns-in-Err
returns-in-Err g c =
    attempts-unasked g.S.DeviceStore.store_state _ _ _
    (λ devices keeps. rw c.in-Err.ensures.0 (rw (← c.in-Err.ensures.1) (c.ignored_effect.ensures false), keeps))

use Rattle.std.proofs.Common.{false}
use Rattle.gateway_core.proofs.AttemptLemmas.{attempts-unasked}
use Rattle.gateway_core.proofs.handler.Handler.try_order.Goals as goal

pub returns-in-Base : goal.returns-in-Base
returns-in-Base g c =
    rw c.in-Base.is (attempts-unasked g.S.DeviceStore.store_state _ _ _
    (λ devices keeps. (c.base_id_request_effect.ensures false, keeps)))

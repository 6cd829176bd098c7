use Rattle.std.proofs.Common.{ap, []}
use Rattle.gateway_core.specs.Step.{Ordered, with_explanation}
use Rattle.gateway_core.proofs.AttemptLemmas.{handles-attempted}
use Rattle.gateway_core.proofs.handler.Handler.line.Goals as goal

pub returns : goal.returns
returns g c =
    let reply = c.finish_order in
    handles-attempted g.S.DeviceStore.store_state _ _ _ (Ordered c.args.line.now) _ _
    (ap (with_explanation []) reply.ensures.answer) reply.ensures.base reply.ensures.mode reply.ensures.counts
    reply.ensures.registry c.try_line-tried.ensures

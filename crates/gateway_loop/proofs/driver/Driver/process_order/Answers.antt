use Rattle.std.proofs.lemmas.Result.{MatchResult-weaker}
use Rattle.gateway_loop.proofs.DriverStepLemmas.{takes-order, breaks-order}
use Rattle.gateway_loop.proofs.driver.Driver.process_order.Goals as goal

pub returns-clause-taken : goal.returns-clause-taken
returns-clause-taken g c =
    let output = g.O.ReplySink.output in
    let old = c.args.self.now in
    let new = c.answer_order.new.self in
    let handled = rw (← c.answer_order.ensures.kept) at c.order-reply.ensures in
    MatchResult-weaker c.answer_order.result c.answer_order.ensures.put
    (λ _ out. takes-order output old new c.requires handled out c.answer_order.ensures.counted)
    (λ _ out. breaks-order output old new c.requires handled out)

use Rattle.std.proofs.lemmas.Grind.{common_steps}
use Rattle.std.proofs.Common.{arith}
use Rattle.std.proofs.Common.{sym, ◌∙◌}
use Rattle.desk_orders.proofs.ForCallers.{parsed-in_range}
use Rattle.gateway_core.proofs.AttemptLemmas.{attempts-unasked, attempts-order}
use Rattle.gateway_core.proofs.handler.Handler.try_line.Goals as goal

pub try_order-requires : goal.try_order-requires
try_order-requires g c = parsed-in_range c.args.line.now c.in-Ok.order (sym c.parse.ensures ∙ c.in-Ok.is)

pub returns-in-Ok : goal.returns-in-Ok
returns-in-Ok g c = grind (arith, common_steps, attempts-order)

pub returns-in-Err : goal.returns-in-Err
returns-in-Err g c = grind (arith, common_steps, attempts-order, attempts-unasked)

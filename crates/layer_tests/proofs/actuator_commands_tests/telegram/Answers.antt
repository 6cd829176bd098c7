use Rattle.std.proofs.Common.{sym, ◌∙◌}
use Rattle.desk_orders.proofs.ForCallers.{parsed-in_range}
use Rattle.layer_tests.proofs.actuator_commands_tests.telegram.Goals as goal

pub packet_of-requires-clause-in_range : goal.packet_of-requires-clause-in_range
packet_of-requires-clause-in_range c =
    parsed-in_range c.args.line.now c.in_ok-order.order (sym c.parse.ensures ∙ c.in_ok-order.was)

use Rattle.desk_orders.proofs.OrderLemmas.{orders_are_spelled}
use Rattle.desk_orders.proofs.laws.orders_are_spelled.Goals as goal

pub returns : goal.returns
returns c = orders_are_spelled

use Rattle.desk_orders.proofs.OrderLemmas.{parsed-fault}
use Rattle.desk_orders.proofs.laws.lines_have_no_other_fault.Goals as goal

pub returns : goal.returns
returns c = parsed-fault

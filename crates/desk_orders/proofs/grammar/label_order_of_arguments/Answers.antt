use Rattle.std.proofs.Common.{arith, rules}
use Rattle.desk_orders.proofs.LabelLemmas.{label-not_taken, label_named}
use Rattle.desk_orders.proofs.grammar.label_order_of_arguments.Goals as goal

pub of_text-requires : goal.of_text-requires
of_text-requires c = grind (arith, label_named)

pub returns-in-None : goal.returns-in-None
returns-in-None c = grind (arith, label-not_taken)

pub returns-in-Some : goal.returns-in-Some
returns-in-Some c = search rules

use Rattle.std.proofs.Common.{arith, rules}
use Rattle.desk_orders.proofs.WordLemmas.{label_whole}
use Rattle.desk_orders.proofs.words.parse_label_rest.Goals as goal

pub returns-in-Some : goal.returns-in-Some
returns-in-Some c = grind (arith, label_whole)

pub returns-in-None : goal.returns-in-None
returns-in-None c = search rules

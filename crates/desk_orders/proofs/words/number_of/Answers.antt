use Rattle.std.proofs.Common.{arith}
use Rattle.desk_orders.proofs.NumberLemmas.{number-utf8, number-parsed}
use Rattle.desk_orders.proofs.words.number_of.Goals as goal

pub returns-in_err-ok : goal.returns-in_err-ok
returns-in_err-ok c = grind (arith, number-utf8)

pub returns : goal.returns
returns c = grind (arith, number-parsed)

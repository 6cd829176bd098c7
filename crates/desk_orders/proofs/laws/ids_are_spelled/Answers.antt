use Rattle.desk_orders.proofs.SpellingLemmas.{id_spelled, id_read}
use Rattle.desk_orders.proofs.laws.ids_are_spelled.Goals as goal

pub returns : goal.returns
returns c = λ digits id. (id_read digits id, id_spelled digits id)

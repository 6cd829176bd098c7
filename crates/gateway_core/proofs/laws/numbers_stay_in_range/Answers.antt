use Rattle.gateway_core.proofs.ByteLemmas.{inputs_are_of_bytes}
use Rattle.gateway_core.proofs.RangeLemmas.{leaves_in_range, stays_in_range, reports_in_range}
use Rattle.gateway_core.proofs.laws.numbers_stay_in_range.Goals as goal

pub returns-clause-items : goal.returns-clause-items
returns-clause-items c = inputs_are_of_bytes

pub returns-clause-stays : goal.returns-clause-stays
returns-clause-stays c = stays_in_range

pub returns-clause-leaves : goal.returns-clause-leaves
returns-clause-leaves c = leaves_in_range

pub returns-clause-reports : goal.returns-clause-reports
returns-clause-reports c = reports_in_range

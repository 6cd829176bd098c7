use Rattle.gateway_core.proofs.CrashLemmas.{crash_consistency_composes}
use Rattle.gateway_core.proofs.laws.crash_consistency_composes_from_any.Goals as goal

pub returns : goal.returns
returns g c = crash_consistency_composes g.M.PriorDevices.are

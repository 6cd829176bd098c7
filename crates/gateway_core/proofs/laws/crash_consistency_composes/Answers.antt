use Rattle.gateway_core.proofs.CrashLemmas.{crash_consistency_composes}
use Rattle.gateway_core.proofs.laws.crash_consistency_composes.Goals as goal

pub returns : goal.returns
returns g c = λ registry. crash_consistency_composes (g.S.DeviceStore.store_state registry).may_recover

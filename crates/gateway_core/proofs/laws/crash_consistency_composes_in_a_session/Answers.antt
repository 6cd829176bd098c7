use Rattle.std.proofs.Common.{◌≡◌}
use Rattle.learned_devices.specs.Devices.{Devices}
use Rattle.gateway_core.specs.CrashStates.{IsOneOf}
use Rattle.gateway_core.proofs.CrashLemmas.{crash_consistency_composes}
use Rattle.gateway_core.proofs.laws.crash_consistency_composes_in_a_session.Goals as goal

pub returns-clause-found : goal.returns-clause-found
returns-clause-found c = λ found. crash_consistency_composes (λ (devices : Devices). devices ≡ found)

pub returns-clause-listed : goal.returns-clause-listed
returns-clause-listed c = λ maps. crash_consistency_composes (IsOneOf maps)

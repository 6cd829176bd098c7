use Rattle.std.proofs.Common.{rules}
use Rattle.device_registry.proofs.OpenCalls.{fails-without_call}
use Rattle.device_registry.proofs.CacheAgreement.{CacheAgrees-empty}
use Rattle.device_registry.proofs.registry.RegistryOver.open_with.Goals as goal

pub returns-in-Err-clause-failed : goal.returns-in-Err-clause-failed
returns-in-Err-clause-failed g c = search (rules, fails-without_call)

pub invariant_of-result : goal.invariant_of-result
invariant_of-result g c = (
  λ clean. (c.in-Ok-prepare.ensures.opened clean).registries,
  λ clean is_open. (c.in-Ok-prepare.ensures.opened clean).ready,
)

pub invariant_of-result-in-Ok-prepare : goal.invariant_of-result-in-Ok-prepare
invariant_of-result-in-Ok-prepare g c = (
  λ clean. (c.in-Ok-prepare.ensures.opened clean).registries,
  CacheAgrees-empty c.in-Ok.cache.entries c.in-Ok.ensures,
)

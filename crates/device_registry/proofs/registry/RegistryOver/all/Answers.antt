use Rattle.device_registry.proofs.CacheAgreement.{EntryAgrees-kept, CacheAgrees-cleared}
use Rattle.device_registry.proofs.registry.RegistryOver.all.Goals as goal

pub invariant_of-self : goal.invariant_of-self
invariant_of-self g c = (
  c.all.ensures.lists.reopenable,
  λ entry has clean. EntryAgrees-kept c.in-Ok.ensures.ready clean (c.in-Ok.ensures.lists.devices clean)
      (c.self.invariant.1 entry has (c.all.ensures.lists.clean clean)),
)

pub returns-in-Ok : goal.returns-in-Ok
returns-in-Ok g c = rw (← c.self.view_is) (assumption c.in-Ok.ensures)

pub returns-in-Err : goal.returns-in-Err
returns-in-Err g c = rw (← c.self.view_is) (assumption c.in-Err.ensures)

pub invariant_of-self-in-Err : goal.invariant_of-self-in-Err
invariant_of-self-in-Err g c = (c.all.ensures.lists.reopenable, CacheAgrees-cleared _ c.clear.ensures)

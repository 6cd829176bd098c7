use Rattle.keyed_table.proofs.Common.{◌∙◌, Some, option_map, ap, sym}
use Rattle.device_registry.proofs.Common.{device}
use Rattle.device_registry.proofs.CacheAgreement.{CacheAgrees-cleared, CacheAgrees-updated}
use Rattle.device_registry.proofs.registry.RegistryOver.store_known.Goals as goal

pub put_known-requires : goal.put_known-requires
put_known-requires g c = rw (← c.self.view_is) at c.requires

pub invariant_of-self : goal.invariant_of-self
invariant_of-self g c =
    let (operation, makes) = rw (← c.self.view_is) at c.requires.known in
    CacheAgrees-updated c.in-Ok.ensures.ready _ _ _ (c.in-Ok.ensures.updates operation makes)
    (λ clean devices has. ap (λ device. Some device) c.copied-stored.ensures
    ∙ sym (ap (option_map (device c.args.device.id)) (makes clean devices has).1))
    c.self.invariant.1 c.drop_entry.ensures.kept c.insert_entry.ensures.kept

pub returns-in-Ok : goal.returns-in-Ok
returns-in-Ok g c = rw (← c.self.view_is) (record {
  updates = λ operation makes. assumption (c.in-Ok.ensures.updates operation makes);
  written = c.in-Ok.ensures.written;
})

pub returns-in-Err-clause-updates : goal.returns-in-Err-clause-updates
returns-in-Err-clause-updates g c =
    rw (← c.self.view_is) (λ operation makes. assumption (c.in-Err.ensures.updates operation makes))

pub invariant_of-self-in-Err : goal.invariant_of-self-in-Err
invariant_of-self-in-Err g c =
    let (operation, makes) = rw (← c.self.view_is) at c.requires.known in
    ((c.put_known.ensures.updates operation makes).reopenable, CacheAgrees-cleared _ c.clear.ensures)

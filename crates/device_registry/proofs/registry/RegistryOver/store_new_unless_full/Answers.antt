use Rattle.std.proofs.Common.{rules}
use Rattle.keyed_table.proofs.Common.{◌∙◌, Ok, Some, option_map, ap, sym}
use Rattle.device_registry.proofs.Common.{device, learn_update, Updates}
use Rattle.device_registry.proofs.CacheAgreement.{CacheAgrees-cleared, CacheAgrees-updated, EntryAgrees-kept}
use Rattle.device_registry.proofs.registry.RegistryOver.store_new_unless_full.Goals as goal

pub learn_unless_full-requires : goal.learn_unless_full-requires
learn_unless_full-requires g c = rw (← c.self.view_is) at c.requires

-- ---- the registry is not full

pub invariant_of-self : goal.invariant_of-self
invariant_of-self g c =
    let adds = rw (c.in-Ok-true.field-0-test) at c.in-Ok-true.ensures.adds in
    let updates : Updates {A = Unit {0}} {E = Unit {0}} _ _ (learn_update c.args.device) (Ok tt) = record {
      clean = adds.clean;
      reopenable = adds.reopenable;
      commits = adds.commits;
      devices = λ clean devices has. (adds.devices clean devices has).1;
    } in
    CacheAgrees-updated c.in-Ok-true.ensures.ready _ _ _ updates (λ clean devices has.
    ap (λ device. Some device) c.copied-copy.ensures
    ∙ sym (ap (option_map (device c.args.device.id)) ((rw (← c.self.view_is) at c.requires.learned) clean devices has)))
    c.self.invariant.1 c.drop_entry.ensures.kept c.insert_entry.ensures.kept

pub returns-in-Ok-true-clause-written : goal.returns-in-Ok-true-clause-written
returns-in-Ok-true-clause-written g c = rw (← c.self.view_is) (search (rules, c.in-Ok-true.ensures.written))

-- ---- the registry is full, and the other cache entries stay

pub invariant_of-self-in-Ok-false : goal.invariant_of-self-in-Ok-false
invariant_of-self-in-Ok-false g c =
    let adds = rw (c.in-Ok-false.field-0-test) at c.in-Ok-false.ensures.adds in (
      adds.reopenable,
      λ entry has clean. EntryAgrees-kept c.in-Ok-false.ensures.ready clean (adds.devices clean)
          (c.self.invariant.1 entry (c.drop_entry.ensures.kept entry has).0 (adds.clean clean)),
    )

pub returns-in-Ok-false-clause-learns : goal.returns-in-Ok-false-clause-learns
returns-in-Ok-false-clause-learns g c =
    rw (← c.self.view_is) (assumption (rw (c.in-Ok-false.field-0-test) at c.in-Ok-false.ensures.adds))

-- ---- the database fails

pub returns-in-Err-clause-learns : goal.returns-in-Err-clause-learns
returns-in-Err-clause-learns g c = rw (← c.self.view_is) (assumption c.in-Err.ensures)

pub invariant_of-self-in-Err : goal.invariant_of-self-in-Err
invariant_of-self-in-Err g c = (c.learn_unless_full.ensures.adds.reopenable, CacheAgrees-cleared _ c.clear.ensures)

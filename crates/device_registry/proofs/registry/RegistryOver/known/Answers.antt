use Rattle.keyed_table.proofs.Common.{inl, inr, refl, rules}
use Rattle.sqlite.proofs.StateLemmas.{unchanged}
use Rattle.device_registry.proofs.CacheAgreement.{CacheAgrees-cleared, EntryAgrees-found, EntryAgrees-kept}
use Rattle.device_registry.proofs.registry.RegistryOver.known.Goals as goal

-- ---- the sender is cached

pub invariant_of-self : goal.invariant_of-self
invariant_of-self g c =
    (c.self.invariant.0, λ entry has. c.self.invariant.1 entry (c.look_up_cached.ensures.kept entry has))

pub returns-in-Some : goal.returns-in-Some
returns-in-Some g c =
    let entry = c.self.invariant.1 (c.args.id, c.in-Some.known) c.in-Some.ensures.known in
    rw (← c.self.view_is) (record {
      survives = search rules;
      looks_up = record {
        clean = λ clean. clean;
        reopenable = c.self.invariant.0;
        commits = λ _. refl;
        devices = λ clean devices has. ((entry clean).is devices has, assumption has);
      };
      same = λ clean. unchanged _ (entry clean).ready.shows.is_open;
      ready = λ clean. search (rules, entry clean);
    })

-- ---- the sender is looked up

pub invariant_of-self-in-Ok : goal.invariant_of-self-in-Ok
invariant_of-self-in-Ok g c =
    let found = c.in-Ok.ensures.looks_up in
    let ready = c.in-Ok.ensures.ready in (
      found.reopenable,
      λ entry has clean. elim ((rw c.copied-copy.ensures at c.insert_entry.ensures.kept) entry has) [
        | inl was ↦ EntryAgrees-kept ready clean (found.devices clean)
            (c.self.invariant.1 entry (c.look_up_cached.ensures.kept entry was) (found.clean clean))
        | inr same ↦ rw same (EntryAgrees-found ready clean (found.devices clean))
      ],
    )

pub returns-in-Ok : goal.returns-in-Ok
returns-in-Ok g c = rw (← c.self.view_is) (assumption c.in-Ok.ensures)

pub returns-in-Err : goal.returns-in-Err
returns-in-Err g c = rw (← c.self.view_is) (assumption c.in-Err.ensures)

pub invariant_of-self-in-Err : goal.invariant_of-self-in-Err
invariant_of-self-in-Err g c = (c.find.ensures.looks_up.reopenable, CacheAgrees-cleared _ c.clear.ensures)

use Rattle.std.proofs.Common.{rules}
use Rattle.keyed_table.proofs.Common.{refl}
use Rattle.device_registry.proofs.CacheAgreement.{CacheAgrees-cleared, CacheAgrees-updated}
use Rattle.device_registry.proofs.OpenCalls.{rewrites_from_earlier}
use Rattle.device_registry.proofs.RegistryCalls.{err_is, pending-from_kept, ready_with_held, updates_then}
use Rattle.learned_devices.proofs.ForCallers.{no_more_commits}
use Rattle.device_registry.proofs.registry.RegistryOver.delete_device.Goals as goal

pub returns-in_err-known-clause-forgets : goal.returns-in_err-known-clause-forgets
returns-in_err-known-clause-forgets g c =
    let looks = c.in_err-known.ensures.looks_up in
    rw (err_is _ c.from_residual.ensures.1)
    (search (rules, looks.commits, looks.devices, no_more_commits, pending-from_kept))

-- ---- the sender is looked up

pub forget-requires-clause-ready : goal.forget-requires-clause-ready
forget-requires-clause-ready g c clean = ((rw (← c.self.view_is) at c.in_ok-known.ensures.ready) clean).1

pub invariant_of-self : goal.invariant_of-self
invariant_of-self g c = CacheAgrees-updated c.in-Ok.ensures.ready _ _ _ c.in-Ok.ensures.forgets
    (λ clean devices has. refl) c.self.invariant.1 c.drop_entry.ensures.kept c.insert_entry.ensures.kept

pub returns-in-Ok-clause-written : goal.returns-in-Ok-clause-written
returns-in-Ok-clause-written g c clean devices has none =
    let known = rw (← c.self.view_is) at c.in_ok-known.ensures in
    let early = c.in-Ok.ensures.forgets.clean clean in
    let shows = ready_with_held (known.looks_up.clean early) (known.ready early).0 has in
    rewrites_from_earlier (g.C.SqlConnection.state c.args.self.now) _ _ shows.holds.registry.tables (known.same early)
    known.survives (c.in-Ok.ensures.written clean devices (known.looks_up.devices early devices has).1.now none)

pub returns-in-Err-clause-forgets : goal.returns-in-Err-clause-forgets
returns-in-Err-clause-forgets g c =
    updates_then (rw (← c.self.view_is) at c.in_ok-known.ensures.looks_up) _ (assumption c.in-Err.ensures.forgets)

pub invariant_of-self-in-Err : goal.invariant_of-self-in-Err
invariant_of-self-in-Err g c = (c.forget.ensures.forgets.reopenable, CacheAgrees-cleared _ c.clear.ensures)

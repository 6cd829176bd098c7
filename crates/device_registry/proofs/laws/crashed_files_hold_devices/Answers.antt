use Rattle.keyed_table.proofs.Common.{inl, subst, arith, IsSound, HasCleanDisk}
use Rattle.device_registry.proofs.Common.{Second}
use Rattle.std.proofs.Math.Logic.{∥∥₁_map}
use Rattle.sqlite.specs.Files.{file_state}
use Rattle.sqlite.proofs.Theorems.{opens_again}
use Rattle.device_registry.proofs.laws.crashed_files_hold_devices.Goals as goal

pub returns : goal.returns
returns g c clean = rw (← c.registry.view_is, ← c.table.view_is) (λ image may.
    let conn = c.table.inside.conn in
    let was : HasCleanDisk (file_state conn) = omega (arith, clean, c.into_store.ensures.quiet.clean) in
    let registries = c.table.invariant.0 was in
    ∥∥₁_map (opens_again conn.store (rw c.into_store.ensures.undone.numbered at c.into_store.ensures.numbered clean)
    (λ trees leaves. let held = registries trees leaves in
    (held.holds.db.schema, subst (IsSound held.holds.db.schema) held.holds.same held.holds.sound)) image may)
    (λ db. let held = registries db.0 db.1 in
    (held.devices, (db.0, db.1, held.holds), (db.0, db.2, inl (Second, held.holds)))))

use Rattle.std.proofs.Math.Logic.{∥∥₁_map}
use Rattle.device_registry.proofs.laws.crash_states_exist.Goals as goal

pub returns-clause-some : goal.returns-clause-some
returns-clause-some g c = rw (← c.registry.view_is, ← c.table.view_is) (λ clean.
    ∥∥₁_map (g.met.S.Store.survives c.table.inside.conn.store clean) (λ left.
    let held = c.table.invariant.0 clean left.0 left.1 in (held.devices, (left.0, left.1, held.holds))))

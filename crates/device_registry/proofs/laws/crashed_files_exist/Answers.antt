use Rattle.std.proofs.Math.Logic.{∥∥₁_map}
use Rattle.sqlite_store.specs.Laws.{survives_at}
use Rattle.device_registry.proofs.laws.crashed_files_exist.Goals as goal

pub returns : goal.returns
returns g c = rw (← c.registry.view_is, ← c.table.view_is) (λ clean.
    ∥∥₁_map (survives_at c.table.inside.conn.store g.met.D.Disk.seen_may_stay clean) (λ left. (left.1.0, left.1.2)))

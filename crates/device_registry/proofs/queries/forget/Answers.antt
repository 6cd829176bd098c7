use Rattle.keyed_table.proofs.Common.{rules}
use Rattle.std.proofs.Common.{SFits, w64, to_z-of_z}
use Rattle.device_registry.proofs.DevicesHeld.{delete-commits}
use Rattle.device_registry.proofs.queries.forget.Goals as goal

pub returns-clause-turns : goal.returns-clause-turns
returns-clause-turns g c =
    let a : SFits w64 c.from.result = search rules in
    delete-commits c.args.id (g.C.SqlConnection.state c.args.conn.now)
    (g.C.SqlConnection.state c.run_delete.new.conn) c.run_delete.result c.requires
    (rw c.from.ensures at (simp to_z-of_z at c.run_delete.ensures.survives))
    (λ clean. rw c.from.ensures at (simp to_z-of_z at (c.run_delete.ensures.runs clean)))

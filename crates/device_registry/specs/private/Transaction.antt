-- A transaction of the registry: what it has run so far, with nothing committed.
use Rattle.std.specs.Prelude.{ℕ, List}
use Rattle.sqlite.specs.State.{HasCleanDisk, IsUnchanged, Survives}
use Rattle.sqlite.specs.Held.{Held, state}
use Rattle.sqlite_trees.specs.declared.store.Store.{Ghosts}
pub use Rattle.keyed_table.specs.Transactions.{IsUncommitted, HasRunStatements, IsMidTransaction}
use Rattle.device_registry.specs.declared.table.Version.{Version}
use Rattle.device_registry.specs.Stored.{AreTablesListed}

-- the transaction ran these texts, and a query of the list of objects then showed the two tables of this version
pub record IsMidTransactionWithTables {S : Type 0} (g : Ghosts S) (version : Version) (texts : List (List ℕ))
    (old new : Held S)
    : Type 0 where
  pub mid : Held S
  pub made : IsMidTransaction g texts old mid
  pub crash : Survives (state g mid) (state g new) (λ _. ⊥)
  pub same : HasCleanDisk (state g new) → IsUnchanged (state g mid) (state g new)
  pub tables_listed : HasCleanDisk (state g new) → AreTablesListed version (state g new).now.trees

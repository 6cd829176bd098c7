-- A table that no other object affects.
use Rattle.std.proofs.Common.{◌≡◌, ◌≢◌, ℕ, List, true}
use Rattle.std.specs.List.{AllByRecursion}
use Rattle.sqlite.specs.Schema.{Schema}
use Rattle.sqlite.specs.Table.{Table}
use Rattle.sqlite_schema.specs.Names.{same_name}
use Rattle.sqlite_rules.specs.Lists.{Has}
use Rattle.keyed_table.specs.Tables.{TreeHasName, HasNoReferenceTo}

-- the table has its name, nothing else is in its tree, nothing refers to it, and no index is on it
pub record IsLone (schema : Schema) (name : List ℕ) (table : Table) : Type 0 where
  pub listed : Has schema.tables table
  pub named : same_name table.name name ≡ true
  pub keeps : AllByRecursion (TreeHasName name table.tree) schema.tables
  pub unreferenced : AllByRecursion (HasNoReferenceTo name) schema.tables
  pub unindexed : AllByRecursion (λ index. index.table ≢ table.tree) schema.indexes

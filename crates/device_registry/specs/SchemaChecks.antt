-- The two tables in a schema, and the conditions on the objects beside them, as functions.
use Rattle.std.specs.Prelude.{codes, ℕ, ◌==◌, List, Bool, true, not, ◌&&◌, ◌||◌, Option, is_none, slice_get, option_map}
use Rattle.std.specs.Prelude.{option_and_then, count_by}
use Rattle.std.specs.List.{list_any}
use Rattle.sqlite.specs.Schema.{Schema}
use Rattle.sqlite.specs.Table.{Table}
use Rattle.sqlite_schema.specs.Names.{same_name, table_named}
use Rattle.sqlite_catalog.specs.Change.{is_used}
use Rattle.device_registry.specs.declared.table.Version.{Version}
use Rattle.device_registry.specs.declared.table.Version.TheVariants.{First, Second}
use Rattle.device_registry.specs.Table.{meta_name, device_table_name}

-- the table has a foreign key that refers to this name
abbrev pub refers_to : (name : List ℕ) → Table → Bool
refers_to name table = list_any (λ reference. same_name reference.parent name) table.references

abbrev pub is_referenced : Schema → (name : List ℕ) → Bool
is_referenced schema name = list_any (refers_to name) schema.tables

abbrev pub is_indexed : Schema → (tree : ℕ) → Bool
is_indexed schema tree = list_any (λ index. index.table == tree) schema.indexes

-- a table refers to one of ours, of either version
abbrev pub has_foreign_key_to_ours : Schema → Bool
has_foreign_key_to_ours schema =
    is_referenced schema meta_name || is_referenced schema (device_table_name First)
    || is_referenced schema (device_table_name Second)

-- a table counts its rowids, but SQLite's table of the counts does not exist
abbrev pub lacks_needed_sequence_table : Schema → Bool
lacks_needed_sequence_table schema =
    list_any (λ table. table.is_counted) schema.tables && is_none (table_named schema (codes "sqlite_sequence"))

-- in version 1, no table counts its rowids without SQLite's table of the counts
abbrev pub migration_adds_no_sequence : Version → Schema → Bool
migration_adds_no_sequence First schema = not (lacks_needed_sequence_table schema)
migration_adds_no_sequence Second schema = true

-- the tables can be created
abbrev pub admits_tables : Schema → Bool
admits_tables schema =
    not (is_used schema meta_name) && not (is_used schema (device_table_name First)) && not
    (is_used schema (device_table_name Second)) && not (has_foreign_key_to_ours schema)
    && not (lacks_needed_sequence_table schema)

-- exactly one table is in the tree
abbrev pub has_one_table : Schema → (tree : ℕ) → Bool
has_one_table schema tree = count_by (λ table. table.tree == tree) schema.tables == 1

-- the tree of the table with this name
abbrev pub tree_of_table : Schema → (name : List ℕ) → Option ℕ
tree_of_table schema name =
    option_map (λ table. table.tree) (option_and_then (slice_get schema.tables) (table_named schema name))

-- What a schema has under the names of our tables.
use Rattle.std.specs.Prelude.{ℕ, List, Bool, not, ◌&&◌, ◌||◌, if◌then◌else◌, Option, Some, None, is_some}
use Rattle.sqlite.specs.Schema.{Schema}
use Rattle.sqlite_schema.specs.Names.{index_named, view_named}
use Rattle.device_registry.specs.declared.schema_check.TablesStatus.{TablesStatus}
use Rattle.device_registry.specs.declared.schema_check.TablesStatus.TheVariants.{Absent, Present, Unusable}
use Rattle.device_registry.specs.declared.table.Version.{Version}
use Rattle.device_registry.specs.declared.table.Version.TheVariants.{First, Second}
use Rattle.device_registry.specs.SchemaChecks.{has_foreign_key_to_ours, has_one_table, is_indexed, tree_of_table}
use Rattle.device_registry.specs.SchemaChecks.{lacks_needed_sequence_table, migration_adds_no_sequence}
use Rattle.device_registry.specs.Stored.{other}
use Rattle.device_registry.specs.Table.{meta_name, device_table_name}

-- an index or a view has this name
abbrev pub is_index_or_view : Schema → (name : List ℕ) → Bool
is_index_or_view schema name = is_some (index_named schema name) || is_some (view_named schema name)

-- the tables can be created, if no table has one of their names
abbrev pub are_creatable : Schema → Bool
are_creatable schema =
    not (is_index_or_view schema meta_name) && not (is_index_or_view schema (device_table_name First)) && not
    (is_index_or_view schema (device_table_name Second)) && not (has_foreign_key_to_ours schema)
    && not (lacks_needed_sequence_table schema)

-- other objects do not affect the tables in these trees, if no table has the name of the other version's
abbrev pub are_unaffected : Version → Schema → (meta devices : ℕ) → Bool
are_unaffected version schema meta devices =
    not (has_foreign_key_to_ours schema) && not (is_indexed schema meta) && not (is_indexed schema devices)
    && has_one_table schema meta && has_one_table schema devices && not
    (is_index_or_view schema (device_table_name (other version))) && migration_adds_no_sequence version schema

-- what the schema has, if the tables of the three names are in these trees
abbrev pub tables_in_trees : Schema → (meta first second : Option ℕ) → TablesStatus
tables_in_trees schema None None None = if are_creatable schema then Absent else Unusable
tables_in_trees schema (Some meta) (Some devices) None =
    if are_unaffected First schema meta devices then Present First else Unusable
tables_in_trees schema (Some meta) None (Some devices) =
    if are_unaffected Second schema meta devices then Present Second else Unusable
tables_in_trees schema None None (Some second) = Unusable
tables_in_trees schema None (Some first) second = Unusable
tables_in_trees schema (Some meta) None None = Unusable
tables_in_trees schema (Some meta) (Some first) (Some second) = Unusable

-- The status of the tables, computed as in the code. In `TablesRecognized.antt`, `is_absent` and `is_present` say when
-- it is `Absent` or `Present`, and `status_implies` says what a status implies.
abbrev pub tables_status : Schema → TablesStatus
tables_status schema =
    tables_in_trees schema (tree_of_table schema meta_name) (tree_of_table schema (device_table_name First))
    (tree_of_table schema (device_table_name Second))

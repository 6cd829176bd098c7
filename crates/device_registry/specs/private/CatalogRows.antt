-- For private postconditions: the rows of the list of objects, as functions.
use Rattle.std.specs.Prelude.{List, Bool, ◌&&◌}
use Rattle.std.specs.List.{list_any}
use Rattle.sqlite.specs.Order.{Row}
pub use Rattle.keyed_table.specs.Objects.{is_text, is_catalog_row}
use Rattle.device_registry.specs.declared.table.Version.{Version}
use Rattle.device_registry.specs.Table.{meta_name, device_table_name, create_meta_sql, create_device_sql}

-- the rows list the two tables with their texts
abbrev pub list_our_tables : Version → List Row → Bool
list_our_tables version rows = list_any (is_catalog_row meta_name create_meta_sql) rows
    && list_any (is_catalog_row (device_table_name version) (create_device_sql version)) rows

-- The devices that a database holds.
use Rattle.std.specs.Prelude.{◌≡◌, ◌≢◌, ◌≤◌, ℕ, false, [], ◌∷◌, length}
use Rattle.std.specs.List.{AllByRecursion}
use Rattle.sqlite.specs.Order.{Row}
use Rattle.sqlite.specs.Schema.{Schema}
use Rattle.sqlite.specs.Table.{Table}
use Rattle.sqlite.specs.Does.{lacks_sequence}
use Rattle.sqlite.specs.Effect.{Database, IsDatabase}
use Rattle.sqlite_catalog.specs.Change.{is_used}
use Rattle.sqlite_trees.specs.Tree.{Trees}
use Rattle.keyed_table.specs.Stores.{HoldsIn}
pub use Rattle.keyed_table.specs.Tables.{IsTableAt, HasNoReferenceTo, TreeHasName, catalog_rows, HasCatalogText}
use Rattle.device_registry.specs.declared.table.Version.{Version}
use Rattle.device_registry.specs.declared.table.Version.TheVariants.{First, Second}
use Rattle.learned_devices.specs.Devices.{Devices, max_devices}
use Rattle.device_registry.specs.Table.{meta_name, device_table_name, create_meta_sql, create_device_sql, meta_table}
use Rattle.device_registry.specs.Table.{device_table}
use Rattle.device_registry.specs.Table.Rows.{IsDeviceRow, IsVersionRow, RowidsDiffer, devices_in, upgraded_rows}

-- no foreign key of the table refers to one of ours, of either version
pub record HasNoReferenceToOurs (table : Table) : Type 0 where
  pub meta : HasNoReferenceTo meta_name table
  pub devices : (version : Version) → HasNoReferenceTo (device_table_name version) table

-- no table refers to ours
abbrev pub NoneRefersToOurs : Schema → Type 0
NoneRefersToOurs schema = AllByRecursion HasNoReferenceToOurs schema.tables

abbrev pub other : Version → Version
other First = Second
other Second = First

-- In version 1, no table counts its rowids without SQLite's table of the counts: creating the device table of version 2
-- would add it.
abbrev pub MigrationAddsNoSequence : Version → Schema → Type 0
MigrationAddsNoSequence First schema = lacks_sequence schema ≡ false
MigrationAddsNoSequence Second schema = Unit {0}

-- The schema has the two tables of a registry of this version, and the other objects do not affect them: no foreign key
-- refers to them, no other table is in their trees, they have no index, and the name of the other version's table is
-- free.
pub record HasTables (version : Version) (schema : Schema) : Type 0 where
  -- the numbers of their trees, and their indexes in the schema
  pub meta : ℕ
  pub devices : ℕ
  pub meta_at : ℕ
  pub devices_at : ℕ
  pub meta_is_table : IsTableAt schema meta_name (meta_table meta) meta_at
  pub devices_are_table : IsTableAt schema (device_table_name version) (device_table version devices) devices_at
  pub apart : meta ≢ devices
  pub unreferenced : NoneRefersToOurs schema
  pub alone : AllByRecursion (λ table. TreeHasName meta_name meta table
      × TreeHasName (device_table_name version) devices table)
      schema.tables
  pub unindexed : AllByRecursion (λ index. (index.table ≢ meta) × (index.table ≢ devices)) schema.indexes
  pub other_version_unused : is_used schema (device_table_name (other version)) ≡ false
  pub sequence_allowed : MigrationAddsNoSequence version schema

-- in the trees of the two tables, the version is this one, and the other rows are devices, none twice and at most 1,000
pub record HasValidRows (version : Version) (trees : Trees) (meta devices : ℕ) : Type 0 where
  pub row : Row
  pub one_version_row : trees meta ≡ row ∷ []
  pub version_row_valid : IsVersionRow version row
  pub rows : AllByRecursion IsDeviceRow (upgraded_rows version (trees devices))
  pub ids_differ : RowidsDiffer (upgraded_rows version (trees devices))
  pub at_most_max_devices : length (upgraded_rows version (trees devices)) ≤ max_devices

-- the two tables are listed with our texts
abbrev pub AreTablesListed : Version → Trees → Type 0
AreTablesListed version trees =
    HasCatalogText trees meta_name create_meta_sql
    × HasCatalogText trees (device_table_name version) (create_device_sql version)

-- the database is a registry of this version, as this program leaves it
pub record IsRegistry (version : Version) (db : Database) : Type 0 where
  pub tables : HasTables version db.schema
  pub valid_rows : HasValidRows version db.trees tables.meta tables.devices
  pub tables_listed : AreTablesListed version db.trees

-- the database is a registry of this version with these devices
pub record IsRegistryOfVersion (version : Version) (db : Database) (devices : Devices) : Type 0 where
  pub registry : IsRegistry version db
  pub is : devices_in (upgraded_rows version (db.trees registry.tables.devices)) ≡ devices

-- the trees are those of a registry of this version with these devices
abbrev pub HoldsInVersion : Version → Trees → Devices → Type 0
HoldsInVersion version = HoldsIn (IsRegistryOfVersion version)

-- the same for an opened registry, which is of version 2
abbrev pub IsVersion2RegistryOf : Database → Devices → Type 0
IsVersion2RegistryOf = IsRegistryOfVersion Second

abbrev pub HoldsVersion2 : Trees → Devices → Type 0
HoldsVersion2 = HoldsInVersion Second

-- the trees are those of a registry of version 2
pub record AreVersion2Trees (trees : Trees) : Type 0 where
  pub devices : Devices
  pub holds : HoldsVersion2 trees devices

-- The tables can be created: nothing has their names, of either version; no foreign key refers to them; and no table
-- counts its rowids without SQLite's table of the counts, which our CREATE would add.
pub record AdmitsTables (schema : Schema) : Type 0 where
  pub meta_name_unused : is_used schema meta_name ≡ false
  pub device_names_unused : (version : Version) → is_used schema (device_table_name version) ≡ false
  pub unreferenced : NoneRefersToOurs schema
  pub sequence_allowed : lacks_sequence schema ≡ false

-- the trees are those of a database in which the tables can be created
pub record AdmitsRegistry (trees : Trees) : Type 0 where
  pub db : Database
  pub same : db.trees ≡ trees
  pub sound : IsDatabase db
  pub admits_tables : AdmitsTables db.schema

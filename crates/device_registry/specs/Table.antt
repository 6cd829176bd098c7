-- The two tables of the registry, in both versions: their names, versions and ranges, the texts of all statements on
-- them, and the tables that SQLite makes of them. Version 2 has labels; a database of version 1 is migrated to it on
-- open.
pub mod Rows
use Rattle.std.specs.Prelude.{ℕ, true, false, List, [], ◌∷◌, ◌++◌, Some, codes, pos, negsuc}
use Rattle.sqlite.specs.Collation.TheVariants.{Binary}
use Rattle.sqlite.specs.declared.types.Value.TheVariants.{Null, Int}
use Rattle.sqlite.specs.Table.{Table}
use Rattle.sqlite.specs.Kind.{Kind}
use Rattle.sqlite.specs.Kind.TheVariants.{Integer, Text}
use Rattle.sqlite.specs.Term.{Term, lit, col, op2}
use Rattle.sqlite_schema.specs.declared.schema.Column.{Column}
use Rattle.sqlite_sql.specs.declared.ops.BinaryOp.TheVariants.{Compare, And}
use Rattle.sqlite_sql.specs.declared.ops.CompareOp.TheVariants.{Eq, Le, Ge}
pub use Rattle.keyed_table.specs.Objects.{list_objects_sql}
pub use Rattle.keyed_table.specs.Tables.{key_column, not_null_column, keyed_table, between}
use Rattle.device_registry.specs.declared.table.Version.{Version}
use Rattle.device_registry.specs.declared.table.Version.TheVariants.{First, Second}

-- the number of a version in its row. Own choice
abbrev pub version_number : Version → ℕ
version_number First = 1
version_number Second = 2

-- FFFFFFFF is no sender
abbrev pub max_sender : ℕ
max_sender = 4294967294

-- a profile has three bytes
abbrev pub max_profile : ℕ
max_profile = 16777215

-- a manufacturer ID has 11 bits
abbrev pub max_maker : ℕ
max_maker = 2047

-- ---- the texts

abbrev pub meta_name : List ℕ
meta_name = codes "enogate_meta"

abbrev pub device_table_name : Version → List ℕ
device_table_name First = codes "enogate_device"
device_table_name Second = codes "enogate_device_v2"

abbrev pub create_meta_sql : List ℕ
create_meta_sql = codes "CREATE TABLE enogate_meta (k INTEGER PRIMARY KEY CHECK (k = 1), version INTEGER NOT NULL) STRICT"

abbrev pub create_device_sql : Version → List ℕ
create_device_sql First =
    codes "CREATE TABLE enogate_device (id INTEGER PRIMARY KEY CHECK (id >= 0 AND id <= 4294967294), "
    ++ codes "eep INTEGER NOT NULL CHECK (eep >= 0 AND eep <= 16777215), "
    ++ codes "maker INTEGER NOT NULL CHECK (maker >= -1 AND maker <= 2047)) STRICT"
create_device_sql Second =
    codes "CREATE TABLE enogate_device_v2 (id INTEGER PRIMARY KEY CHECK (id >= 0 AND id <= 4294967294), "
    ++ codes "eep INTEGER NOT NULL CHECK (eep >= 0 AND eep <= 16777215), "
    ++ codes "maker INTEGER NOT NULL CHECK (maker >= -1 AND maker <= 2047), label TEXT NOT NULL) STRICT"

abbrev pub write_version_sql : List ℕ
write_version_sql = codes "INSERT INTO enogate_meta (k, version) VALUES (1, 2)"

abbrev pub read_version_sql : List ℕ
read_version_sql = codes "SELECT k, version FROM enogate_meta"

-- it writes version 2; in a registry of that version the row does not change
abbrev pub rewrite_version_sql : List ℕ
rewrite_version_sql = codes "UPDATE enogate_meta SET version = 2"

abbrev pub find_sql : List ℕ
find_sql = codes "SELECT id, eep, maker, label FROM enogate_device_v2 WHERE id = ?1"

-- devices of version 1 are shown with the empty label
abbrev pub find_all_sql : Version → List ℕ
find_all_sql First = codes "SELECT id, eep, maker, '' FROM enogate_device ORDER BY id"
find_all_sql Second = codes "SELECT id, eep, maker, label FROM enogate_device_v2 ORDER BY id"

abbrev pub count_others_sql : List ℕ
count_others_sql = codes "SELECT count(*) FROM enogate_device_v2 WHERE id <> ?1"

abbrev pub upsert_sql : List ℕ
upsert_sql = codes "INSERT OR REPLACE INTO enogate_device_v2 (id, eep, maker, label) VALUES (?1, ?2, ?3, ?4)"

abbrev pub delete_sql : List ℕ
delete_sql = codes "DELETE FROM enogate_device_v2 WHERE id = ?1"

abbrev pub copy_sql : List ℕ
copy_sql =
    codes "INSERT INTO enogate_device_v2 (id, eep, maker, label) SELECT id, eep, maker, '' FROM enogate_device"

abbrev pub drop_sql : List ℕ
drop_sql = codes "DROP TABLE enogate_device"

-- ---- the tables, as SQLite reads them from the texts

abbrev pub meta_table : (tree : ℕ) → Table
meta_table tree = keyed_table meta_name tree (key_column (codes "k") ∷ not_null_column Integer (codes "version") ∷ [])
    (op2 (Compare Eq Binary) (col 1 0) (lit (Int (pos 1))) ∷ [])

abbrev pub device_columns : Version → List Column
device_columns First =
    key_column (codes "id") ∷ not_null_column Integer (codes "eep") ∷ not_null_column Integer (codes "maker") ∷ []
device_columns Second = key_column (codes "id") ∷ not_null_column Integer (codes "eep")
    ∷ not_null_column Integer (codes "maker") ∷ not_null_column Text (codes "label") ∷ []

abbrev pub device_table : Version → (tree : ℕ) → Table
device_table version tree =
    keyed_table (device_table_name version) tree (device_columns version)
    (between 0 (lit (Int (pos 0))) (lit (Int (pos max_sender))) ∷ between 2 (lit (Int (pos 0)))
    (lit (Int (pos max_profile))) ∷ between 3 (lit (Int (negsuc 0))) (lit (Int (pos max_maker))) ∷ [])

-- Tables with an integer key, as SQLite reads them from the texts that create them, and their places in a schema.
use Rattle.std.specs.Prelude.{◌≡◌, ℕ, true, false, List, [], ◌∷◌, map, Some, slice_get}
use Rattle.std.specs.List.{AllByRecursion}
use Rattle.sqlite.specs.Collation.TheVariants.{Binary}
use Rattle.sqlite.specs.declared.types.Value.TheVariants.{Null, Text}
use Rattle.sqlite.specs.Order.{Row, column}
use Rattle.sqlite.specs.Listing.{shown}
use Rattle.sqlite.specs.Does.{lacks_sequence}
use Rattle.sqlite.specs.Schema.{Schema}
use Rattle.sqlite.specs.Table.{Table}
use Rattle.sqlite.specs.Kind.{Kind}
use Rattle.sqlite.specs.Kind.TheVariants.{Integer}
use Rattle.sqlite.specs.Term.{Term, col, op2}
use Rattle.sqlite_sql.specs.declared.ops.BinaryOp.TheVariants.{Compare, And}
use Rattle.sqlite_sql.specs.declared.ops.CompareOp.TheVariants.{Le, Ge}
use Rattle.sqlite_schema.specs.declared.schema.Column.{Column}
use Rattle.sqlite_schema.specs.Names.{table_named, same_name}
use Rattle.sqlite_catalog.specs.Change.{is_used}
use Rattle.sqlite_rules.specs.Edit.{put_all}
use Rattle.sqlite_rules.specs.Lists.{Has}
use Rattle.sqlite_trees.specs.Objects.{catalog_tree}
use Rattle.sqlite_trees.specs.Tree.{Trees}
use Rattle.sqlite_typing.specs.Types.{table_classes, row_classes}

abbrev pub key_column : (name : List ℕ) → Column
key_column name =
    record { name = name; kind = Integer; is_strict = true; not_null = false; default = Null; collation = Binary }

abbrev pub not_null_column : Kind → (name : List ℕ) → Column
not_null_column kind name =
    record { name = name; kind = kind; is_strict = true; not_null = true; default = Null; collation = Binary }

-- the value at this index of the row is between the two
abbrev pub between : (place : ℕ) (low high : Term) → Term
between place low high =
    op2 And (op2 (Compare Ge Binary) (col 1 place) low) (op2 (Compare Le Binary) (col 1 place) high)

-- a STRICT table whose first column is an INTEGER PRIMARY KEY
abbrev pub keyed_table : (name : List ℕ) (tree : ℕ) → List Column → List Term → Table
keyed_table name tree columns checks = record {
  name = name;
  tree = tree;
  columns = columns;
  key = Some 0;
  primary = 0 ∷ [];
  uniques = [];
  orders = [];
  checks = checks;
  references = [];
  computed = [];
  stamps = record { places = []; terms = []; formats = [] };
  is_counted = false;
}

-- the schema's table of this name is this one, at this index
pub record IsTableAt (schema : Schema) (name : List ℕ) (table : Table) (at : ℕ) : Type 0 where
  pub named : table_named schema name ≡ Some at
  pub there : slice_get schema.tables at ≡ Some table
  pub classes : table_classes schema [] table.tree ≡ Some (row_classes table)

-- no foreign key of the table refers to this name
abbrev pub HasNoReferenceTo : (name : List ℕ) → Table → Type 0
HasNoReferenceTo name table = AllByRecursion (λ reference. same_name reference.parent name ≡ false) table.references

-- a table in this tree has this name
abbrev pub TreeHasName : (name : List ℕ) (tree : ℕ) → Table → Type 0
TreeHasName name tree table = table.tree ≡ tree → same_name table.name name ≡ true

-- the list of the database's objects, as SQLite shows it
abbrev pub catalog_rows : Trees → List Row
catalog_rows trees = put_all [] (map shown (trees catalog_tree))

-- an object of this name is listed with this text
pub record HasCatalogText (trees : Trees) (name text : List ℕ) : Type 0 where
  pub row : Row
  pub listed : Has (catalog_rows trees) row
  pub name_is : column row 2 ≡ Text name
  pub sql : column row 5 ≡ Text text

-- The name is free, no foreign key refers to it, and `sqlite_sequence` exists if a table has AUTOINCREMENT.
pub record AdmitsTable (name : List ℕ) (schema : Schema) : Type 0 where
  pub unused : is_used schema name ≡ false
  pub unreferenced : AllByRecursion (HasNoReferenceTo name) schema.tables
  pub sequence_allowed : lacks_sequence schema ≡ false

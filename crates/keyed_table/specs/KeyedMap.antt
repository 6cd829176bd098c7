-- A STRICT table with an INTEGER PRIMARY KEY is a finite map from its keys to the values that its rows encode.
use Rattle.std.specs.Prelude.{◌≡◌, ℕ, List, [], ◌∷◌, None}
use Rattle.std.specs.List.{AllByRecursion}
use Rattle.std.specs.Ordering.{nat_cmp}
use Rattle.std.specs.FinMap.{FinMap}
use Rattle.sqlite.specs.Order.{Row}
use Rattle.sqlite.specs.Schema.{Schema}
use Rattle.sqlite.specs.Table.{Table}
use Rattle.sqlite.specs.Term.{Term, col}
use Rattle.sqlite.specs.Effect.{Database, IsSource}
use Rattle.sqlite.specs.Source.TheVariants.{Values}
use Rattle.sqlite.specs.Command.TheVariants.{Select, InsertOr, Delete}
use Rattle.sqlite.specs.Rows.{mended, stamped}
use Rattle.sqlite_schema.specs.declared.command.Conflict.TheVariants.{Replace}
use Rattle.sqlite_schema.specs.declared.schema.Column.{Column}
use Rattle.sqlite_rules.specs.Cast.{cast_row}
use Rattle.sqlite_rules.specs.Steps.{IsJudged}
use Rattle.keyed_table.specs.Lone.{IsLone}
use Rattle.keyed_table.specs.Meaning.{CompilesTo}
use Rattle.keyed_table.specs.Queries.{program_of, find_query, all_query, count_others_query}
use Rattle.keyed_table.specs.Rows.{HasKey, RowidsDiffer, map_of}
use Rattle.keyed_table.specs.Tables.{keyed_table, IsTableAt}

-- A table, how its rows encode values, and the statements on it. `row` is the row of a key and its value, and `IsRow`
-- says which rows the table holds: the CHECKs and types of the columns may say less.
pub record Codec (V : Type 0) : Type 1 where
  pub name : List ℕ
  pub columns : List Column
  pub checks : List Term
  pub IsRow : Row → Type 0
  pub Fits : (id : ℕ) → V → Type 0
  pub value : Row → V
  pub row : (id : ℕ) → V → Row
  -- what SELECT shows of a row
  pub select_terms : List Term
  -- the parameters of the upsert, and the row that it sends
  pub params : (id : ℕ) → V → Row
  pub upsert_terms : List Term
  pub upsert_width : ℕ
  pub find_sql : List ℕ
  pub all_sql : List ℕ
  pub count_others_sql : List ℕ
  pub upsert_sql : List ℕ
  pub delete_sql : List ℕ

abbrev pub table_of : {V : Type 0} → Codec V → (tree : ℕ) → Table
table_of c tree = keyed_table c.name tree c.columns c.checks

-- what a codec owes
module _ {V : Type 0} (c : Codec V) where
  -- rows have keys; a value that fits is stored as its row, which is a row of the table if the checks pass
  pub record IsCodec : Type 0 where
    pub key_of : (row : Row) → c.IsRow row → HasKey row
    pub key_is : (id : ℕ) (v : V) → HasKey (c.row id v)
    pub key_back : (id : ℕ) (v : V) → (key_is id v).id ≡ id
    pub back : (id : ℕ) (v : V) → c.Fits id v → c.value (c.row id v) ≡ v
    pub stored : (tree id : ℕ) (v : V) → cast_row (table_of c tree) (c.row id v) ≡ c.row id v
    pub mends : (tree id : ℕ) (v : V) → mended Replace (table_of c tree) (c.row id v) ≡ c.row id v
    pub upsert_row_is : (db : Database) (tree id : ℕ) (v : V) (rows : List Row)
        → IsSource db (stamped (table_of c tree) (c.params id v)) (Values c.upsert_terms c.upsert_width) rows
        → rows ≡ c.row id v ∷ []
    pub passing_is_row : (tree id : ℕ) (v : V) → c.Fits id v → IsJudged (table_of c tree) (c.row id v) None
        → c.IsRow (c.row id v)

  -- its texts are read as the statements on the table; computation proves it, text by text
  pub record SqlTextsCompile : Type 0 where
    pub find_names : List (List ℕ)
    pub all_names : List (List ℕ)
    pub count_others_names : List (List ℕ)
    pub find : (schema : Schema) (at d : ℕ) → IsTableAt schema c.name (table_of c d) at
        → CompilesTo schema c.find_sql (Select (program_of (find_query d c.select_terms)) find_names)
    pub all : (schema : Schema) (at d : ℕ) → IsTableAt schema c.name (table_of c d) at
        → CompilesTo schema c.all_sql (Select (program_of (all_query d c.select_terms)) all_names)
    pub count : (schema : Schema) (at d : ℕ) → IsTableAt schema c.name (table_of c d) at
        → CompilesTo schema c.count_others_sql (Select (program_of (count_others_query d)) count_others_names)
    pub upsert : (schema : Schema) (at d : ℕ) → IsTableAt schema c.name (table_of c d) at
        → CompilesTo schema c.upsert_sql (InsertOr at Replace (Values c.upsert_terms c.upsert_width) [])
    pub delete : (schema : Schema) (at d : ℕ) → IsTableAt schema c.name (table_of c d) at
        → CompilesTo schema c.delete_sql (Delete at (program_of (find_query d (col 1 0 ∷ []))))

  -- each row satisfies `IsRow`, no two have the same key, and the rows encode this map
  pub record AreMap (rows : List Row) (m : FinMap nat_cmp V) : Type 0 where
    pub valid : AllByRecursion c.IsRow rows
    pub differ : RowidsDiffer rows
    pub is : map_of c.value rows ≡ m

  -- the database has the table, no other object affects it, and its rows are this map
  pub record HoldsMap (db : Database) (m : FinMap nat_cmp V) : Type 0 where
    pub tree : ℕ
    pub at : ℕ
    pub stands : IsTableAt db.schema c.name (table_of c tree) at
    pub lone : IsLone db.schema c.name (table_of c tree)
    pub rows : AreMap (db.trees tree) m

-- The queries on one table with an integer key, as SQLite reads them from their texts.
use Rattle.std.specs.Prelude.{ℕ, pos, negsuc, List, [], ◌∷◌, false, Some, None}
use Rattle.sqlite.specs.declared.types.Value.TheVariants.{Null, Int}
use Rattle.sqlite.specs.Order.{Row}
use Rattle.sqlite.specs.Term.{Term, lit, col, op2}
use Rattle.sqlite.specs.Query.{Query, inner, end}
use Rattle.sqlite.specs.Collation.{Collation}
use Rattle.sqlite.specs.Collation.TheVariants.{Binary}
use Rattle.sqlite_value.specs.declared.keys.Key.{Key}
use Rattle.sqlite_schema.specs.declared.program.Program.{Program}
use Rattle.sqlite_sql.specs.Group.{Grouping}
use Rattle.sqlite_sql.specs.declared.ops.BinaryOp.TheVariants.{Compare}
use Rattle.sqlite_sql.specs.declared.ops.CompareOp.TheVariants.{Eq, Ne}
use Rattle.sqlite_sql.specs.declared.aggregate.AggregateOp.TheVariants.{CountRows}

-- what is shown of each row of this tree that passes the tests
abbrev pub rows_query : (tree : ℕ) (tests shown : List Term) → List Collation → (order : List (Term × Key)) → Query
rows_query tree tests shown collations order = record {
  from = inner tree end;
  filter = tests;
  group = None;
  project = shown;
  distinct = false;
  collations = collations;
  order = order;
  limit = lit (Int (negsuc 0));
  offset = lit (Int (pos 0));
}

abbrev pub plain_query : (tree : ℕ) (tests shown : List Term) → Query
plain_query tree tests shown = rows_query tree tests shown [] []

abbrev pub program_of : Query → Program
program_of q = record { lets = []; body = q }

-- the key as the parameter of a statement
abbrev pub lookup_params : (id : ℕ) → Row
lookup_params id = Int (pos id) ∷ []

-- the key is the first parameter
abbrev pub key_equals_param : Term
key_equals_param = op2 (Compare Eq Binary) (col 1 0) (col 0 0)

abbrev pub key_differs_from_param : Term
key_differs_from_param = op2 (Compare Ne Binary) (col 1 0) (col 0 0)

-- the row of a key
abbrev pub find_query : (tree : ℕ) (shown : List Term) → Query
find_query tree shown = plain_query tree (key_equals_param ∷ []) shown

-- all rows, in ascending order of key
abbrev pub all_query : (tree : ℕ) (shown : List Term) → Query
all_query tree shown =
    rows_query tree [] shown [] ((col 1 0, record { collation = Binary; descending = false }) ∷ [])

-- all the rows are one group, which is counted
abbrev pub count_rows : Grouping
count_rows = record {
  keys = [];
  collations = [];
  aggregates = record { op = CountRows; distinct = false; collation = Binary; argument = lit Null } ∷ [];
  having = [];
}

-- the number of rows with other keys
abbrev pub count_others_query : (tree : ℕ) → Query
count_others_query tree =
    record (plain_query tree (key_differs_from_param ∷ []) (col 1 0 ∷ [])) { group = Some count_rows }

-- The registry's statements as SQLite reads them. The lists of the columns that proofs about statements use are here.
use Rattle.keyed_table.proofs.Common.{ℕ, pos, List, [], ◌∷◌, codes, Option, None, Some, Null, Int, Text, Term, lit}
use Rattle.keyed_table.proofs.Common.{col, Query, Row, Collation, Binary, eval_all, Expr, One, rows_query, plain_query}
use Rattle.device_registry.proofs.Common.{Version, First, Second}
use Rattle.keyed_table.proofs.RowsAsMap.{env_of}
use Rattle.keyed_table.proofs.TextMeaning.{column_read}
use Rattle.sqlite_ast.specs.declared.Shown.{Shown as Column}
use Rattle.sqlite_ast.specs.declared.Expr.TheVariants as written
use Rattle.keyed_table.specs.Queries as keyed

-- ---- the columns of the device table

-- the columns that a query shows of a device; in version 1 the label is empty
abbrev pub device_terms : Version → List Term
device_terms First = col 1 0 ∷ col 1 2 ∷ col 1 3 ∷ lit (Text []) ∷ []
device_terms Second = col 1 0 ∷ col 1 2 ∷ col 1 3 ∷ col 1 4 ∷ []

-- the same columns as they are written; `shown_columns` has the names that SQLite shows
abbrev pub columns_read : Version → List Column
columns_read First = column_read (codes "id") ∷ column_read (codes "eep") ∷ column_read (codes "maker")
    ∷ One (written.Text []) None (codes "''") ∷ []
columns_read Second = column_read (codes "id") ∷ column_read (codes "eep") ∷ column_read (codes "maker")
    ∷ column_read (codes "label") ∷ []

abbrev pub shown_columns : Version → List (List ℕ)
shown_columns First = codes "id" ∷ codes "eep" ∷ codes "maker" ∷ codes "''" ∷ []
shown_columns Second = codes "id" ∷ codes "eep" ∷ codes "maker" ∷ codes "label" ∷ []

-- the rowid has no collation, and neither has a literal
abbrev pub collations : Version → List (Option Collation)
collations First = None ∷ Some Binary ∷ Some Binary ∷ None ∷ []
collations Second = None ∷ Some Binary ∷ Some Binary ∷ Some Binary ∷ []

-- the indexes in a row of the columns that are filled
abbrev pub filled_places : List ℕ
filled_places = 0 ∷ 2 ∷ 3 ∷ 4 ∷ []

-- the parameters of the upsert as they are written, and the row that they give
abbrev pub parameters : List Expr
parameters = written.Parameter 1 ∷ written.Parameter 2 ∷ written.Parameter 3 ∷ written.Parameter 4 ∷ []

abbrev pub upsert_terms : List Term
upsert_terms = col 0 0 ∷ lit Null ∷ col 0 1 ∷ col 0 2 ∷ col 0 3 ∷ []

-- the rows of version 1, each with its rowid, as rows of version 2
abbrev pub copy_query : ℕ → Query
copy_query d = rows_query d [] (col 1 0 ∷ lit Null ∷ col 1 2 ∷ col 1 3 ∷ lit (Text []) ∷ [])
    (Binary ∷ Binary ∷ Binary ∷ Binary ∷ Binary ∷ []) []

-- ---- the queries, and the rows that they show

-- what is shown of a row of version 2
abbrev pub shown : Row → Row
shown row = eval_all (device_terms Second) (env_of [] row)

abbrev pub all_query : Version → ℕ → Query
all_query version d = keyed.all_query d (device_terms version)

abbrev pub rewrite_query : ℕ → Query
rewrite_query d = plain_query d [] (col 1 0 ∷ col 1 0 ∷ lit Null ∷ lit (Int (pos 2)) ∷ [])

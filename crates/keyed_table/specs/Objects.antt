-- The list of a database's objects, and the query that shows it.
use Rattle.std.specs.Prelude.{codes, ℕ, List, Bool, false, ◌&&◌}
use Rattle.std.specs.Str.{bytes_eq}
use Rattle.sqlite.specs.declared.types.Value.{Value}
use Rattle.sqlite.specs.declared.types.Value.TheVariants.{Null, Int, Real, Text, Blob}
use Rattle.sqlite.specs.Order.{Row, column}

-- it shows the name, the kind and the text of each object
abbrev pub list_objects_sql : List ℕ
list_objects_sql = codes "SELECT name, type, sql FROM sqlite_schema ORDER BY rowid"

abbrev pub is_text : Value → (text : List ℕ) → Bool
is_text (Text t) text = bytes_eq t text
is_text (Int n) text = false
is_text Null text = false
is_text (Real x) text = false
is_text (Blob b) text = false

abbrev pub is_catalog_row : (name text : List ℕ) → Row → Bool
is_catalog_row name text row = is_text (column row 0) name && is_text (column row 2) text

-- An example: a table of heights, each with a number.
use Rattle.std.specs.Prelude.{◌≡◌, ◌≤◌, ◌≤ℤ◌, ℕ, ℤ, pos, negsuc, List, [], ◌∷◌, codes}
use Rattle.sqlite.specs.declared.types.Value.TheVariants.{Null, Int}
use Rattle.sqlite.specs.Kind.TheVariants.{Integer}
use Rattle.sqlite.specs.Order.{Row, column}
use Rattle.sqlite.specs.Term.{lit, col}
use Rattle.sqlite_rules.specs.Edit.{id_in}
use Rattle.keyed_table.specs.KeyedMap.{Codec}
use Rattle.keyed_table.specs.Tables.{key_column, not_null_column, between}

abbrev pub height_text : List ℕ
height_text = codes "CREATE TABLE height (id INTEGER PRIMARY KEY CHECK (id >= 0 AND id <= 255), metres INTEGER NOT NULL CHECK (metres >= -500 AND metres <= 9000)) STRICT"

-- a row of the table: a number up to 255, and a height in its range
pub record IsHeight (row : Row) : Type 0 where
  pub id : ℕ
  pub id_is : column row 0 ≡ Int (pos id)
  pub low : id ≤ 255
  pub metres : ℤ
  pub metres_are : column row 2 ≡ Int metres
  pub range : (negsuc 499 ≤ℤ metres) × (metres ≤ℤ pos 9000)

abbrev pub heights : Codec ℤ
heights = record {
  name = codes "height";
  columns = key_column (codes "id") ∷ not_null_column Integer (codes "metres") ∷ [];
  checks = between 0 (lit (Int (pos 0))) (lit (Int (pos 255)))
      ∷ between 2 (lit (Int (negsuc 499))) (lit (Int (pos 9000))) ∷ [];
  IsRow = IsHeight;
  Fits = λ id metres. Unit {0};
  value = λ row. id_in (column row 2);
  row = λ id metres. Int (pos id) ∷ Null ∷ Int metres ∷ [];
  select_terms = col 1 0 ∷ col 1 2 ∷ [];
  params = λ id metres. Int (pos id) ∷ Int metres ∷ [];
  upsert_terms = col 0 0 ∷ lit Null ∷ col 0 1 ∷ [];
  upsert_width = 3;
  find_sql = codes "SELECT id, metres FROM height WHERE id = ?1";
  all_sql = codes "SELECT id, metres FROM height ORDER BY id";
  count_others_sql = codes "SELECT count(*) FROM height WHERE id <> ?1";
  upsert_sql = codes "INSERT OR REPLACE INTO height (id, metres) VALUES (?1, ?2)";
  delete_sql = codes "DELETE FROM height WHERE id = ?1";
}

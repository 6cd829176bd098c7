-- The rows of a table with an integer key, as a finite map.
use Rattle.std.specs.Prelude.{◌≡◌, ◌≢◌, ℕ, pos, negsuc, false, Bool, List, map}
use Rattle.std.specs.List.{AllByRecursion}
use Rattle.std.specs.Ordering.{is_eq, nat_cmp}
use Rattle.std.specs.FinMap.{FinMap, from_entries}
use Rattle.sqlite.specs.declared.types.Value.{Value}
use Rattle.sqlite.specs.declared.types.Value.TheVariants.{Null, Int, Real, Text, Blob}
use Rattle.sqlite.specs.Order.{Row, column, value_cmp}
use Rattle.sqlite_trees.specs.Tree.{IsAscending, rowid}

-- the number that is stored in a value, if it is not negative
abbrev pub natural_in : Value → ℕ
natural_in (Int (pos n)) = n
natural_in (Int (negsuc n)) = 0
natural_in Null = 0
natural_in (Real x) = 0
natural_in (Text t) = 0
natural_in (Blob b) = 0

abbrev pub key_in : Row → ℕ
key_in row = natural_in (column row 0)

-- the rowid of the row is its key, which is not negative
pub record HasKey (row : Row) : Type 0 where
  pub id : ℕ
  pub id_is : column row 0 ≡ Int (pos id)

-- no two rows have the same rowid, in any order
abbrev pub RowidsDiffer : List Row → Type 0
RowidsDiffer = IsAscending (λ a b. rowid a ≢ rowid b)

-- SQL compares the rowids of the two rows as equal
abbrev pub are_tied : (a b : Row) → Bool
are_tied a b = is_eq (value_cmp (rowid a) (rowid b))

-- no row has the rowid of this one
abbrev pub HasNewKey : Row → List Row → Type 0
HasNewKey new = AllByRecursion (λ r. are_tied r new ≡ false)

-- no two rows have rowids that SQL compares as equal
abbrev pub RowidsAreUntied : List Row → Type 0
RowidsAreUntied = IsAscending (λ a b. are_tied a b ≡ false)

-- each row has a key, and no two the same
pub record AreKeyed (rows : List Row) : Type 0 where
  pub keys : AllByRecursion HasKey rows
  pub apart : RowidsAreUntied rows

-- the rows as a map, if each row encodes a value
module _ {V : Type 0} (value : Row → V) where
  abbrev pub entry_of : Row → ℕ × V
  entry_of row = (key_in row, value row)

  abbrev pub map_of : List Row → FinMap nat_cmp V
  map_of rows = from_entries (map entry_of rows)

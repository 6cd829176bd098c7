-- Which texts cannot commit.
use Rattle.std.specs.Prelude.{ℕ, Bool, nat_eq, codes, List}
use Rattle.std.specs.List.{starts_with}

-- The text begins with `SELECT `. A SELECT changes nothing, and a call that shows rows runs one statement.
abbrev pub is_select : (sql : List ℕ) → Bool
is_select sql = starts_with nat_eq sql (codes "SELECT ")

-- The example's table is a map: its codec, and what its texts mean.
use Rattle.keyed_table.proofs.Common.{inl, ◌≡◌, ℕ, ℤ, pos, negsuc, [], ◌∷◌, codes, Some, None, true, refl, arith}
use Rattle.keyed_table.proofs.Common.{and_parts, ints, Binary, Database, Schema, col, empty, AdmitsTable, passes_checks}
use Rattle.keyed_table.proofs.Common.{Eq, Ne, CallStar, One, table_of, IsCodec, SqlTextsCompile, HoldsMap, find_query}
use Rattle.keyed_table.proofs.Common.{all_query, ParsesAs}
use Rattle.sqlite_tied.specs.Compute.{everything}
use Rattle.sqlite_ast.specs.declared.Expr.TheVariants.{Parameter}
use Rattle.keyed_table.specs.Example.{height_text, heights, IsHeight}
use Rattle.keyed_table.proofs.Columns.{casts, is_between, lies_between}
use Rattle.keyed_table.proofs.TablesKept.{makes, IsCreateText}
use Rattle.keyed_table.proofs.TextMeaning.{IsPlainSelect, plain_select, select_means, column_read, by_column}
use Rattle.keyed_table.proofs.TextMeaning.{parameter_test, count_draft, draft_of, insert_means, delete_means}
use Rattle.sqlite_ast.specs.declared.CreateTable.{CreateTable as Defined}
use Rattle.sqlite_ast.specs.declared.Conflict.TheVariants as conflict
use Rattle.sqlite_ast.specs.declared.Rows.TheVariants as rows
use Rattle.sqlite_ast.specs.declared.Statement.TheVariants as written

-- a row that passes the CHECKs is a row of the table
checked : (tree id : ℕ) (metres : ℤ) → passes_checks (table_of heights tree) (heights.row id metres) ≡ true
    → IsHeight (heights.row id metres)
checked tree id metres h =
    let first = and_parts (is_between (pos 0) (pos 255) (pos id)) _ h in
    let second = and_parts (is_between (negsuc 499) (pos 9000) metres) true first.1 in
    let low = (lies_between (pos 0) (pos 255) (pos id) first.0).1 in
    record {
      id = id;
      id_is = refl;
      low = omega (arith, ints, low);
      metres = metres;
      metres_are = refl;
      range = lies_between (negsuc 499) (pos 9000) metres second.0;
    }

pub codec : IsCodec heights
codec = record {
  key_of = λ row it. record { id = it.id; id_is = it.id_is };
  key_is = λ id metres. record { id = id; id_is = refl };
  key_back = λ id metres. refl;
  back = λ id metres fits. refl;
  stored = λ tree id metres. simp casts;
  mends = λ tree id metres. refl;
  upsert_row_is = λ db tree id metres rows given. given.1;
  passing_is_row = λ tree id metres fits judged. checked tree id metres judged.3;
}

-- ---- the texts, by computation

find_is : IsPlainSelect heights.find_sql (plain_select (codes "height") (column_read (codes "id")
    ∷ column_read (codes "metres") ∷ []) (parameter_test Eq (codes "id")) [])
unfolding everything
find_is = record { read = record { parsed = _; read = refl; is = refl; needs_no_time = refl } }

all_is : IsPlainSelect heights.all_sql (plain_select (codes "height") (column_read (codes "id")
    ∷ column_read (codes "metres") ∷ []) None (by_column (codes "id") ∷ []))
unfolding everything
all_is = record { read = record { parsed = _; read = refl; is = refl; needs_no_time = refl } }

count_is : IsPlainSelect heights.count_others_sql (plain_select (codes "height")
    (One (CallStar (codes "count")) None (codes "count(*)") ∷ []) (parameter_test Ne (codes "id")) [])
unfolding everything
count_is = record { read = record { parsed = _; read = refl; is = refl; needs_no_time = refl } }

upsert_read : ParsesAs heights.upsert_sql (written.Insert conflict.Replace (codes "height")
    (codes "id" ∷ codes "metres" ∷ []) (rows.Values ((Parameter 1 ∷ Parameter 2 ∷ []) ∷ [])) [] [])
unfolding everything
upsert_read = record { parsed = _; read = refl; is = refl; needs_no_time = refl }

delete_read : ParsesAs heights.delete_sql (written.Delete (codes "height") (parameter_test Eq (codes "id")) [])
unfolding everything
delete_read = record { parsed = _; read = refl; is = refl; needs_no_time = refl }

unfoldable create_read : (def : Defined) × ParsesAs height_text (written.CreateTable def)
unfolding everything
create_read = (_, record { parsed = _; read = refl; is = refl; needs_no_time = refl })

pub create_text : IsCreateText (table_of heights 0) height_text
unfolding everything create_read
create_text = record {
  table_is = refl;
  makes = makes (table_of heights 0) create_read.1 refl refl refl refl refl;
}

pub meant : SqlTextsCompile heights
unfolding everything
meant = record {
  find_names = codes "id" ∷ codes "metres" ∷ [];
  all_names = codes "id" ∷ codes "metres" ∷ [];
  count_others_names = codes "count(*)" ∷ [];
  find = λ schema at d it. select_means find_is it (draft_of (table_of heights d) (find_query d heights.select_terms))
      (None ∷ Some Binary ∷ []) (rw (it.there, it.there)) (record { from = refl; accepted = refl });
  all = λ schema at d it. select_means all_is it (draft_of (table_of heights d) (all_query d heights.select_terms))
      (None ∷ Some Binary ∷ []) (rw (it.there, it.there, it.there, it.there)) (record { from = refl; accepted = refl });
  count = λ schema at d it. select_means count_is it (count_draft (table_of heights d)) (None ∷ [])
      (rw (it.there, it.there)) (record { from = refl; accepted = refl });
  upsert = λ schema at d it. insert_means it _ upsert_read refl (λ base. rw (it.named, it.there));
  delete = λ schema at d it. delete_means it (draft_of (table_of heights d) (find_query d (col 1 0 ∷ []))) delete_read
      (rw (it.there, it.there)) (record { from = refl; accepted = refl });
}

-- ---- the premises have instances

abbrev bare : Schema
bare = record { tables = []; indexes = []; views = [] }

pub admitted : AdmitsTable heights.name bare
unfolding everything
admitted = record { unused = refl; unreferenced = tt; sequence_allowed = refl }

abbrev empty_table : Database
empty_table = record { schema = record bare { tables = table_of heights 4 ∷ [] }; trees = λ tree. [] }

pub held : HoldsMap heights empty_table empty
unfolding everything
held = record {
  tree = 4;
  at = 0;
  stands = record { named = refl; there = refl; classes = refl };
  lone = record { listed = inl refl; named = refl; keeps = ((λ e. refl), tt); unreferenced = (tt, tt); unindexed = tt };
  rows = record { valid = tt; differ = tt; is = refl };
}

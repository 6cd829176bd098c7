-- The meaning of the registry's texts: the tables that its texts of CREATE define, and the commands that the others
-- compile to.
use Rattle.keyed_table.proofs.Common.{◌≡◌, ◌∷◌, Abort, Binary, CallStar, CompilesTo, Draft, DropTable, Eq, Insert, Int}
use Rattle.keyed_table.proofs.Common.{List, Ne, None, Null, Ok, One, ParsesAs, Query, Row, Schema, Select, Some, Term}
use Rattle.keyed_table.proofs.Common.{SqlTextsCompile, Update, Values, [], codes, col, false, find_query, lit}
use Rattle.keyed_table.proofs.Common.{plain_query, pos, program_of, refl, table_defined_by, view_named, ℕ}
use Rattle.device_registry.proofs.Common.{First, Second, IsTableAt, Version, copy_sql, count_others_sql}
use Rattle.device_registry.proofs.Common.{create_device_sql, create_meta_sql, device_table, device_table_name, drop_sql}
use Rattle.device_registry.proofs.Common.{find_all_sql, find_sql, meta_table, read_version_sql, rewrite_version_sql}
use Rattle.device_registry.proofs.Common.{delete_sql, upsert_sql, write_version_sql}
use Rattle.keyed_table.proofs.TablesKept.{IsCreateText, makes}
use Rattle.keyed_table.proofs.TextMeaning.{IsPlainSelect, PlainSelect, asked, by_column, column_read, count_draft}
use Rattle.keyed_table.proofs.TextMeaning.{delete_means, draft_of, insert_means, means, parameter_test, plain_select}
use Rattle.keyed_table.proofs.TextMeaning.{program_is, query_is, select_means, select_of, update_means}
use Rattle.sqlite_ast.specs.declared.CreateTable.{CreateTable as Defined}
use Rattle.sqlite_resolve.specs.Compile.{command, insert, insert_or_abort, new_rows, queried, source_of}
use Rattle.sqlite_resolve.specs.Write.{as_row, inserted, places, selected}
use Rattle.sqlite_tied.specs.Compute.{everything}
use Rattle.device_registry.proofs.DeviceRows.{devices}
use Rattle.device_registry.proofs.StatementTexts.{all_query, collations, columns_read, copy_query, device_terms}
use Rattle.device_registry.proofs.StatementTexts.{filled_places, parameters, rewrite_query, shown_columns}
use Rattle.sqlite.specs.Source.TheVariants as source
use Rattle.sqlite_ast.specs.declared.Conflict.TheVariants as conflict
use Rattle.sqlite_ast.specs.declared.Rows.TheVariants as rows
use Rattle.sqlite_ast.specs.declared.Statement.TheVariants as written

-- ---- the tables that the texts of CREATE define

pub device_is : (version : Version) → table_defined_by (create_device_sql version) ≡ Ok (device_table version 0)
unfolding everything
device_is First = refl
device_is Second = refl

unfoldable device_read : (def : Defined) × ParsesAs (create_device_sql Second) (written.CreateTable def)
unfolding everything
device_read = (_, record { parsed = _; read = refl; is = refl; needs_no_time = refl })

-- the texts of CREATE that the program runs
pub meta_text : IsCreateText (meta_table 0) create_meta_sql
unfolding everything
meta_text = record {
  table_is = refl;
  makes = makes (meta_table 0) {def = _} (record { parsed = _; read = refl; is = refl; needs_no_time = refl }) refl
      refl refl refl refl;
}

pub device_text : IsCreateText (device_table Second 0) (create_device_sql Second)
unfolding everything device_read
device_text =
    record { table_is = device_is Second; makes = makes (device_table Second 0) device_read.1 refl refl refl refl refl }

-- ---- the texts on the device table

-- how the text of the list is parsed, in either version
find_all-is_plain : (version : Version) → IsPlainSelect (find_all_sql version)
    (plain_select (device_table_name version) (columns_read version) None (by_column (codes "id") ∷ []))
unfolding everything
find_all-is_plain First = record { read = record { parsed = _; read = refl; is = refl; needs_no_time = refl } }
find_all-is_plain Second = record { read = record { parsed = _; read = refl; is = refl; needs_no_time = refl } }

-- in either version, the text of the list means the query for all devices
pub find_all-means : (version : Version) (schema : Schema) (at d : ℕ)
    → IsTableAt schema (device_table_name version) (device_table version d) at
    → CompilesTo schema (find_all_sql version) (Select (program_of (all_query version d)) (shown_columns version))
unfolding everything
find_all-means First schema at d stands = select_means (find_all-is_plain First) stands
    (draft_of (device_table First d) (all_query First d)) (collations First)
    (rw (stands.there, stands.there, stands.there, stands.there)) (record { from = refl; accepted = refl })
find_all-means Second schema at d stands = select_means (find_all-is_plain Second) stands
    (draft_of (device_table Second d) (all_query Second d)) (collations Second)
    (rw (stands.there, stands.there, stands.there, stands.there)) (record { from = refl; accepted = refl })

pub meant : SqlTextsCompile devices
unfolding everything
meant =
    let find : IsPlainSelect find_sql
    (plain_select (device_table_name Second) (columns_read Second) (parameter_test Eq (codes "id")) []) =
    record { read = record { parsed = _; read = refl; is = refl; needs_no_time = refl } } in
    let count : IsPlainSelect count_others_sql (plain_select (device_table_name Second)
    (One (CallStar (codes "count")) None (codes "count(*)") ∷ []) (parameter_test Ne (codes "id")) []) =
    record { read = record { parsed = _; read = refl; is = refl; needs_no_time = refl } } in
    let upsert : ParsesAs upsert_sql (written.Insert conflict.Replace (device_table_name Second) (shown_columns Second)
    (rows.Values (parameters ∷ [])) [] []) = record { parsed = _; read = refl; is = refl; needs_no_time = refl } in
    let delete : ParsesAs delete_sql
    (written.Delete (device_table_name Second) (parameter_test Eq (codes "id")) []) =
    record { parsed = _; read = refl; is = refl; needs_no_time = refl } in
    record {
      find_names = shown_columns Second;
      all_names = shown_columns Second;
      count_others_names = codes "count(*)" ∷ [];
      find = λ schema at d stands. select_means find stands
          (draft_of (device_table Second d) (find_query d (device_terms Second))) (collations Second)
          (rw (stands.there, stands.there)) (record { from = refl; accepted = refl });
      all = find_all-means Second;
      count = λ schema at d stands. select_means count stands (count_draft (device_table Second d)) (None ∷ [])
          (rw (stands.there, stands.there)) (record { from = refl; accepted = refl });
      upsert = λ schema at d stands. insert_means stands _ upsert refl (λ base. rw (stands.named, stands.there));
      delete = λ schema at d stands. delete_means stands (draft_of (device_table Second d) (find_query d
          (col 1 0 ∷ []))) delete (rw (stands.there, stands.there)) (record { from = refl; accepted = refl });
    }

-- ---- the texts on the version table

-- the version row, as it is written
abbrev pub version_row : Row
version_row = Int (pos 1) ∷ Null ∷ Int (pos 2) ∷ []

abbrev pub version_terms : List Term
version_terms = lit (Int (pos 1)) ∷ lit Null ∷ lit (Int (pos 2)) ∷ []

abbrev pub version_query : ℕ → Query
version_query d = plain_query d [] (col 1 0 ∷ col 1 2 ∷ [])

module _ (schema : Schema) (at d : ℕ) (stands : IsTableAt schema (codes "enogate_meta") (meta_table d) at) where
  pub insert_version_means : CompilesTo schema write_version_sql (Insert at (Values version_terms 3))
  unfolding everything
  insert_version_means = insert_means stands _ (record { parsed = _; read = refl; is = refl; needs_no_time = refl })
      refl (λ base. rw (stands.named, stands.there))

  pub rewrite_means : CompilesTo schema rewrite_version_sql (Update at (program_of (rewrite_query d)))
  unfolding everything
  rewrite_means = update_means stands (draft_of (meta_table d) (rewrite_query d))
      (record { parsed = _; read = refl; is = refl; needs_no_time = refl }) refl
      (record { from = refl; accepted = refl })

  -- The key has no collation.
  pub version_means : CompilesTo schema read_version_sql
      (Select (program_of (version_query d)) (codes "k" ∷ codes "version" ∷ []))
  unfolding everything
  version_means =
      let read : IsPlainSelect read_version_sql
      (plain_select (codes "enogate_meta") (column_read (codes "k") ∷ column_read (codes "version") ∷ []) None []) =
      record { read = record { parsed = _; read = refl; is = refl; needs_no_time = refl } } in
      select_means read stands (draft_of (meta_table d) (version_query d)) (None ∷ Some Binary ∷ [])
      (rw (stands.there, stands.there)) (record { from = refl; accepted = refl })

-- ---- the texts that copy the devices of version 1 and drop its table

-- the devices of version 1, each with the empty label
abbrev copied : PlainSelect
copied = plain_select (device_table_name First) (columns_read First) None []

copy_read : ParsesAs copy_sql
    (written.Insert Abort (device_table_name Second) (shown_columns Second) (rows.Select (select_of copied)) [] [])
unfolding everything
copy_read = record { parsed = _; read = refl; is = refl; needs_no_time = refl }

-- the query of the copy, before its output is arranged as rows of version 2
abbrev drafted : ℕ → Draft
drafted d = draft_of (device_table First d) (plain_query d [] (device_terms First))

arranged : (base d e : ℕ) → (places (device_table Second e) (shown_columns Second) ≡ Ok filled_places)
    × (as_row (device_table Second e) base filled_places (drafted d)
    ≡ Ok ((copy_query d).project, (copy_query d).collations))
unfolding everything
arranged base d e = (refl, refl)

module _ (schema : Schema) (at d : ℕ) (stands : IsTableAt schema (device_table_name First) (device_table First d) at)
  where
    asks : asked schema at (device_table First d) copied ≡ Ok (drafted d, shown_columns First, collations First)
    unfolding everything
    asks = rw (stands.there, stands.there)

    pub copy_means : (to e : ℕ) → IsTableAt schema (device_table_name Second) (device_table Second e) to
        → CompilesTo schema copy_sql (Insert to (source.Query (program_of (copy_query d))))
    unfolding command insert_or_abort insert new_rows inserted selected source_of queried
    copy_means to e target =
        insert_means target _ copy_read refl
        (λ base. rw (
          target.named,
          target.there,
          (arranged base d e).0,
          query_is copied stands _ asks,
          (arranged base d e).1,
          program_is stands (record (drafted d)
              { project = (copy_query d).project; collations = (copy_query d).collations })
              (record { from = refl; accepted = refl }),
        ))

    -- the text drops the table, if no view has the name of the table
    pub drop_means : view_named schema (device_table_name First) ≡ None → CompilesTo schema drop_sql (DropTable at)
    unfolding everything
    drop_means none =
        means schema {s = written.DropTable false (device_table_name First)} (DropTable at)
        (record { parsed = _; read = refl; is = refl; needs_no_time = refl }) refl (λ base. refl)
        (λ base. rw (none, stands.named))

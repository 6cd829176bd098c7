-- The list of the objects of a sound database. No two objects have the same name, and a table is the one that its text
-- defines; so the trees determine the database. The query for the objects reads this list, since no table or view has
-- the name that the query reads.
use Rattle.keyed_table.proofs.Common.{Database, IsDatabase, Schema, Table, Text, Null, zipped_left, same_itself}
use Rattle.keyed_table.proofs.Common.{IsSound, IsTableRow, all_from, all_has, has_got, has_filtered, has_left}
use Rattle.keyed_table.proofs.Common.{has_right, some_from, Has, same_name, table_named, catalog_tree, Trees, subst}
use Rattle.keyed_table.proofs.Common.{is_some, None, Option, filter, List, [], ◌∷◌, ◌++◌, map, codes, ◌≡◌, ◌⊎◌, inl}
use Rattle.keyed_table.proofs.Common.{inr, ℕ, ◌<◌, Bool, true, false, ◌+◌, slice_get, Some, refl, sym, ap, ◌∙◌, arith}
use Rattle.keyed_table.proofs.Common.{Ok, length, not-true, and_parts, none_from_any, AllZip, AllByRecursion}
use Rattle.keyed_table.proofs.Common.{position_from, list_any, HoldsIn, col, IsPlain, command_of, all_query, program_of}
use Rattle.keyed_table.proofs.Common.{State, Value}
use Rattle.sqlite_resolve.specs.Compile.{table_defined_by, compiled}
use Rattle.sqlite.specs.Effect.{Reads}
use Rattle.sqlite.specs.Listing.{understood, reads_listing, listing_schema, if_select, IsSourceOf}
use Rattle.sqlite_value.specs.Order.{Row, column, bytes}
use Rattle.sqlite_catalog.proofs.SoundLemmas.{names_agree, lowered, list_parts}
use Rattle.sqlite_catalog.proofs.StepLemmas.{named_once}
use Rattle.sqlite_catalog.specs.Listing.{is_table_row}
use Rattle.sqlite_rules.proofs.ListLemmas.{has_found, test_has, some_has}
use Rattle.sqlite_rules.proofs.ProbeLemmas.{has_mapped, mapped_has}
use Rattle.sqlite_rules.proofs.TableLemmas.{put_all_has}
use Rattle.sqlite_trees.specs.Sound.{Head, head_at, may_follow, are_in_order, is_sound_object, fits_kind, is_free_name}
use Rattle.sqlite_trees.specs.Sound.{same_name as spelled_same}
use Rattle.sqlite_keyed.proofs.SliceLemmas.{any_is_found}
use Rattle.std.proofs.lemmas.Bool.{ltb-true, lt-ltb}
use Rattle.std.specs.List.{find, position_or_len}
use Rattle.std.proofs.lemmas.Option.{cond_some, slice_get_cases, slice_get_within}
use Rattle.std.proofs.lemmas.Iterator.Adapters.{position_from-zero}
use Rattle.std.proofs.lemmas.List.Folds.{find_at}
use Rattle.sqlite_catalog.proofs.ReadLemmas.{lists_once}
use Rattle.keyed_table.specs.Tables.{HasCatalogText, catalog_rows}
use Rattle.sqlite_resolve.specs.Select.{named}
use Rattle.sqlite_tied.specs.Compute.{everything}
use Rattle.keyed_table.proofs.TextMeaning.{by_column, column_read, IsPlainSelect, plain_select, select_misses}
use Rattle.keyed_table.specs.Objects.{list_objects_sql, is_text, is_catalog_row}
use Rattle.sqlite.specs.State.{Shown}
use Rattle.keyed_table.proofs.RowsAsMap.{shows_all}
use Rattle.std.proofs.lemmas.Slice.Eq.{bytes_eq-Decides}
use Rattle.std.proofs.lemmas.List.Sorted.{list_any-IsPermutation}
use Rattle.sqlite.specs.Command.TheVariants.{Select as Selects}
use Rattle.std.proofs.Common.{rules}

pub same_name_symmetric : (a b : List ℕ) → same_name a b ≡ true → same_name b a ≡ true
same_name_symmetric a b same = (lowered b a).1 (sym ((lowered a b).0 same))

-- two names that are the same as a third are the same
pub same_as_third : (a b c : List ℕ) → same_name a c ≡ true → same_name b c ≡ true → same_name a b ≡ true
same_as_third a b c ac bc = (lowered a b).1 ((lowered a c).0 ac ∙ sym ((lowered b c).0 bc))

-- the table of this name
pub record IsNamed (schema : Schema) (name : List ℕ) (tree : ℕ) : Type 0 where
  pub at : ℕ
  pub table : Table
  pub named : table_named schema name ≡ Some at
  pub there : slice_get schema.tables at ≡ Some table
  pub is : table.tree ≡ tree

-- the element that is found at an index exists, and passes the test
pub found_at : {X : Type 0} (test : X → Bool) (at : ℕ) (xs : List X) → position_from test 0 xs ≡ Some at
    → (it : X) × (slice_get xs at ≡ Some it) × (test it ≡ true)
found_at test at xs found =
    let position = cond_some _ (position_or_len test xs) at (position_from-zero test xs ∙ found) in
    let within : at < length xs = omega (arith, ltb-true _ _ position.0, position.1) in
    elim (slice_get_cases xs at).1 [
      | inl (x, below, is, read) ↦ (x, is, (has_found test xs x (rw position.1 at (find_at test xs) ∙ is)).1)
      | inr (past, none) ↦ absurd (omega arith)
    ]

pub none_or_some : {X : Type 0} (o : Option X) → (o ≡ None) ⊎ ((x : X) × (o ≡ Some x))
none_or_some None = inl refl
none_or_some (Some x) = inr (x, refl)

pub none_at : {X : Type 0} (test : X → Bool) (i : ℕ) (xs : List X) → AllByRecursion (λ x. test x ≡ false) xs
    → position_from test i xs ≡ None
none_at test i [] none = refl
none_at test i (x ∷ xs) none = rw none.0 (none_at test (i + 1) xs none.1)

-- the table that is found by a name has this name
pub has_name : (schema : Schema) (name : List ℕ) (at : ℕ) (table : Table) → table_named schema name ≡ Some at
    → slice_get schema.tables at ≡ Some table → same_name table.name name ≡ true
has_name schema name at table named is = search (arith, found_at)

-- ---- the objects have different names

abbrev name_in : Row → List ℕ
name_in row = bytes (column row 2)

abbrev IsInOrder : List Head → List Row → Type 0
IsInOrder earlier rows = are_in_order earlier (map (head_at 1) rows) ≡ true

-- no row has the name of an earlier head
is_new : (earlier : List Head) (rows : List Row) (e : Head) (row : Row) → IsInOrder earlier rows → Has earlier e
    → Has rows row → spelled_same (bytes e.1) (name_in row) ≡ false
unfolding may_follow
is_new earlier [] e row up before there = absurd there
is_new earlier (r ∷ rows) e row up before (inl same) =
    let none = not-true _ (and_parts _ _ (and_parts _ _ up).0).0 in
    rw same (all_has _ earlier e (none_from_any _ earlier none) before)
is_new earlier (r ∷ rows) e row up before (inr later) =
    is_new (earlier ++ head_at 1 r ∷ []) rows e row (and_parts _ _ up).1 (has_left earlier _ e before) later

later_differs : (earlier : List Head) (r : Row) (rows : List Row) (row : Row) → IsInOrder earlier (r ∷ rows)
    → Has rows row → same_name (name_in r) (name_in row) ≡ false
later_differs earlier r rows row up there = names_agree _ _ ∙ is_new (earlier ++ head_at 1 r ∷ []) rows (head_at 1 r)
    row (and_parts _ _ up).1 (has_right earlier _ _ (inl refl)) there

-- two rows with the same name are one
one_row : (earlier : List Head) (rows : List Row) (a b : Row) → IsInOrder earlier rows → Has rows a → Has rows b
    → same_name (name_in a) (name_in b) ≡ true → a ≡ b
one_row earlier [] a b up p q same = absurd p
one_row earlier (r ∷ rows) a b up (inl p) (inl q) same = p ∙ sym q
one_row earlier (r ∷ rows) a b up (inl p) (inr q) same = absurd (search (arith, later_differs))
one_row earlier (r ∷ rows) a b up (inr p) (inl q) same = absurd (search (arith, later_differs, same_name_symmetric))
one_row earlier (r ∷ rows) a b up (inr p) (inr q) same =
    one_row (earlier ++ head_at 1 r ∷ []) rows a b (and_parts _ _ up).1 p q same

-- each table, view or index of the schema has a row in the list
pub listed_row : {X : Type 0} (R : Row → X → Type 0) (test : Row → Bool) (objects : List Row) (xs : List X)
    → AllZip R (filter test objects) xs → (x : X) → Has xs x
    → (row : Row) × Has objects row × (test row ≡ true) × R row x
listed_row R test objects xs all x has = search (arith, zipped_left, has_filtered)

-- each listed object has a row in the catalog tree, with the same name and text
object : (trees : Trees) (name text : List ℕ) → HasCatalogText trees name text
    → (row : Row) × Has (trees catalog_tree) row × (column row 2 ≡ Text name) × (column row 4 ≡ Text text)
object trees name text it = search (arith, put_all_has, has_mapped)

module _ (db : Database) (sound : IsDatabase db) where
  abbrev objects : List Row
  objects = db.trees catalog_tree

  -- the object with the name of a table is that table
  module _ (table : Table) (has : Has db.schema.tables table) (name : List ℕ)
      (named : same_name table.name name ≡ true) where
    table_row : (row : Row) × Has objects row × (is_table_row row ≡ true) × IsTableRow row table
    table_row = listed_row IsTableRow is_table_row objects db.schema.tables sound.lists.listed.tables table has

    -- no other object has the name
    one_object : (row : Row) (other : List ℕ) → Has objects row → column row 2 ≡ Text other
        → same_name other name ≡ true → row ≡ table_row.0
    one_object row other there is same = one_row [] objects row table_row.0
        (list_parts objects sound.lists.listed.loads).1 there table_row.1
        (rw (is, table_row.3.described.name_is) (same_as_third other table.name name same named))

    pub no_view : AllByRecursion (λ w. same_name w.name name ≡ false) db.schema.views
    no_view = search (arith, all_from, listed_row, one_object)

    pub no_index : AllByRecursion (λ i. same_name i.name name ≡ false) db.schema.indexes
    no_index = search (arith, all_from, listed_row, one_object)

    pub one_table : (t : Table) → Has db.schema.tables t → same_name t.name name ≡ true → t ≡ table
    one_table t there same = search (arith, named_once, same_as_third)

  -- a table that is listed with a text is the table that the text defines
  pub defined : (name : List ℕ) (tree : ℕ) (n : IsNamed db.schema name tree) (text : List ℕ) (made : Table)
      → HasCatalogText db.trees name text → table_defined_by text ≡ Ok made
      → (n.table ≡ record made { tree = tree }) × (tree < 65536)
  defined name tree n text made lists is =
      let listed = object db.trees name text lists in
      let has = has_got db.schema.tables n.at n.table n.there in
      let named = has_name db.schema name n.at n.table n.named n.there in
      let row = table_row n.table has name named in
      let same = one_object n.table has name named listed.0 name listed.1 listed.2 (same_itself name) in
      let sql : row.3.sql ≡ text = cc (row.3.sql_is, listed.3, same) in
      let one : row.3.defined.0 ≡ made = cc (row.3.defined.1, sql, is) in
      let is_made = rw one at row.3.defined.2 in
      (is_made ∙ ap (λ t. record made { tree = t }) n.is, rw n.is at row.3.described.low)

-- the only element that passes is the one that is found, at some index
module _ {X : Type 0} (test : X → Bool) (xs : List X) (x : X) (has : Has xs x) (passes : test x ≡ true)
    (only : (y : X) → Has xs y → test y ≡ true → y ≡ x) where
  pub find_only : find test xs ≡ Some x
  find_only = elim (none_or_some (find test xs)) [
    | inl none ↦ absurd (cc (some_from test xs x has passes, any_is_found test xs, ap is_some none))
    | inr some ↦ let own = has_found test xs some.0 some.1 in some.1 ∙ ap Some (only some.0 own.0 own.1)
  ]

  pub only_at : (at : ℕ) × (position_from test 0 xs ≡ Some at) × (slice_get xs at ≡ Some x)
  only_at =
      let at = position_or_len test xs in
      let there = sym (find_at test xs) ∙ find_only in
      (at, sym (position_from-zero test xs) ∙ rw (lt-ltb _ _ (slice_get_within xs at x there)), there)

-- the trees of a sound database determine it
pub one_database : {a b : Database} → a.trees ≡ b.trees → IsDatabase a → IsDatabase b → a ≡ b
one_database {a} {b} trees sound_a sound_b = search (arith, lists_once)

-- the trees determine the value that a database holds, if each database holds at most one value
pub held_once : {M : Type 0} (Holds : Database → M → Type 0) → ((db : Database) (a b : M) → Holds db a → Holds db b
    → a ≡ b) → (trees : Trees) (a b : M) → HoldsIn Holds trees a → HoldsIn Holds trees b → a ≡ b
held_once Holds once trees a b one other = search (arith, one_database)

-- ---- the query for the objects

list_is : IsPlainSelect list_objects_sql (plain_select (codes "sqlite_schema") (column_read (codes "name")
    ∷ column_read (codes "type") ∷ column_read (codes "sql") ∷ []) None (by_column (codes "rowid") ∷ []))
unfolding everything
list_is = record { read = record { parsed = _; read = refl; is = refl; needs_no_time = refl } }

module _ (schema : Schema) (db : Trees) (it : IsSound schema db) where
  free : (row : Row) (name : List ℕ) → Has (db catalog_tree) row → column row 2 ≡ Text name
      → same_name name (codes "sqlite_schema") ≡ false
  unfolding fits_kind is_free_name
  free row name has is =
      let fine = test_has is_sound_object (db catalog_tree) row (list_parts _ it.lists.listed.loads).0 has in
      let fits = (and_parts _ _ (and_parts _ _ fine).0).1 in
      let own : is_free_name (bytes (column row 2)) ≡ true =
      (and_parts _ _ (and_parts _ _ (and_parts _ _ fits).1).0).0 in
      names_agree name (codes "sqlite_schema") ∙ not-true _ (and_parts _ _ (rw is at own)).1

  -- SQLite reads the list of objects for this text
  lists : (reads_listing schema list_objects_sql ≡ true)
      × (understood schema list_objects_sql ≡ if_select (compiled listing_schema list_objects_sql))
  unfolding understood
  lists =
      let no_table : table_named schema (codes "sqlite_schema") ≡ None =
      search (arith, none_at, all_from, listed_row, free) in
      let misses = select_misses list_is schema no_table (search (arith, none_at, all_from, listed_row, free)) in
      (rw misses, rw misses)

list_means : (command_of (if_select (compiled listing_schema list_objects_sql))
    ≡ Selects (program_of (all_query 0 (col 1 2 ∷ col 1 1 ∷ col 1 5 ∷ [])))
    (codes "name" ∷ codes "type" ∷ codes "sql" ∷ [])) × IsPlain (if_select (compiled listing_schema list_objects_sql))
unfolding everything listing_schema
list_means = (refl, (refl, refl))

text_is : (v : Value) (text : List ℕ) → is_text v text ≡ true → v ≡ Text text
text_is value text is = search rules

abbrev line : Row → Row
line r = column r 2 ∷ column r 1 ∷ column r 5 ∷ []

module _ (old new : State) (rows : List Row) (sound : IsDatabase old.now)
    (h : Shown list_objects_sql [] old new rows) where
  -- some shown line passes a test exactly when some line of the list of objects passes it
  lists_as : (test : Row → Bool) → list_any test (map line (catalog_rows old.now.trees)) ≡ list_any test rows
  unfolding Shown
  lists_as test =
      let means = lists old.now.schema old.now.trees sound in
      let known : if_select (compiled listing_schema list_objects_sql) ≡ Ok h.0 = sym means.1 ∙ h.1.is in
      let bare = subst IsPlain known list_means.1 in
      let shows = rw (bare.0, bare.1) at h.2 in
      let source = subst (λ b. IsSourceOf b old.now shows.0) means.0 shows.1 in
      let reads = subst (λ k. Reads k shows.0 [] rows) (ap command_of (sym known) ∙ list_means.0) shows.2 in
      list_any-IsPermutation test (map line (catalog_rows old.now.trees)) rows
      (rw source.1 at (shows_all shows.0.trees (reads.answer Null)))

  module _ (name text : List ℕ) where
    -- what the query shows is listed
    pub reported : list_any (is_catalog_row name text) rows ≡ true → HasCatalogText old.now.trees name text
    reported h =
        let hit = some_has _ (map line (catalog_rows old.now.trees)) (lists_as (is_catalog_row name text) ∙ h) in
        let was = has_mapped line (catalog_rows old.now.trees) hit.0 hit.1 in
        let passes = and_parts _ _ (rw was.2 at hit.2) in record {
          row = was.0;
          listed = was.1;
          name_is = text_is (column was.0 2) name passes.0;
          sql = text_is (column was.0 5) text passes.1;
        }

    -- what is listed is shown by the query
    pub shows_line : HasCatalogText old.now.trees name text → list_any (is_catalog_row name text) rows ≡ true
    shows_line it = sym (lists_as (is_catalog_row name text))
        ∙ some_from _ _ (line it.row) (mapped_has line (catalog_rows old.now.trees) it.row it.listed)
        (search (arith, bytes_eq-Decides))

-- the query is plain under any sound database
pub listing_plain : (db : Database) → IsDatabase db → IsPlain (understood db.schema list_objects_sql)
listing_plain db sound = subst IsPlain (sym (lists db.schema db.trees sound).1) list_means.1

-- CREATE, DROP and writes of other tables keep the rows of a table. After CREATE a table holds the empty map; a table
-- that an open finds holds the map of its rows.
use Rattle.keyed_table.proofs.Common.{slice_get, and_left, and_right, or_from, same_itself, ParsesAs, CompilesTo}
use Rattle.keyed_table.proofs.Common.{statement_of, runs_as, DropTable, Tally, lacks_sequence, Database, IsDatabase}
use Rattle.keyed_table.proofs.Common.{understood, Schema, Table, Term, zipped_left, next_tree, is_used, all_from}
use Rattle.keyed_table.proofs.Common.{has_got, has_left, some_from, has_filtered, has_kept, has_right, all_has}
use Rattle.keyed_table.proofs.Common.{same_name, table_named, view_named, all_weaker, all-filter, codes, List, [], ◌∷◌}
use Rattle.keyed_table.proofs.Common.{length, true, arith, refl, sym, ap, ◌∙◌, is_some, false, None, Some, Ok, not}
use Rattle.keyed_table.proofs.Common.{◌&&◌, ◌≡◌, ℕ, ◌==◌, inl, inr, Bool, subst, ◌≢◌, nat_le, ◌^◌, option_map, Err}
use Rattle.keyed_table.proofs.Common.{Result, OnOk, nat_cmp, nat_tests, row_classes, Index, AllByRecursion}
use Rattle.keyed_table.proofs.Common.{position_from, list_any, HasNoReferenceTo, TreeHasName, AdmitsTable, Keys}
use Rattle.keyed_table.proofs.Common.{any_from_none, Has, IsLone, Row, State, Executes, Error, FinMap, empty, Codec}
use Rattle.keyed_table.proofs.Common.{table_of, AreMap, HoldsMap}
use Rattle.std.proofs.lemmas.Bool.{MatchBool-at_false, and_cases, not-false, not_from_true, eq-eqb, eqb-true}
use Rattle.sqlite_catalog.proofs.StepLemmas.{no_table, table_below, no_index as no_index_of, no_view as no_view_of}
use Rattle.keyed_table.proofs.KeyedMap.{went, same_value, table_low, SparesOthers}
use Rattle.keyed_table.proofs.TextMeaning.{means, understood_as}
use Rattle.sqlite.specs.Command.TheVariants.{CreateTable}
use Rattle.sqlite_resolve.specs.Compile.{table_defined_by, timed, returning, command, create_table, creates}
use Rattle.sqlite_resolve.specs.Compile.{is_attached, is_reserved}
use Rattle.sqlite.specs.Does.{is_acted_on}
use Rattle.sqlite.specs.Rows.{sequence}
use Rattle.sqlite_catalog.proofs.LayoutLemmas.{index_owner}
use Rattle.sqlite_catalog.proofs.ListFacts.{none_placed}
use Rattle.sqlite_catalog.specs.Change.{created, KeepsRows, without_table}
use Rattle.sqlite_schema.specs.Names.{index_named}
use Rattle.sqlite_schema.specs.declared.schema.Column.{Column}
use Rattle.sqlite_trees.proofs.ListLemmas.{all-append}
use Rattle.keyed_table.proofs.ListedTables.{found_at, has_name, only_at, none_at, same_name_symmetric, find_only}
use Rattle.keyed_table.proofs.ListedTables.{none_or_some, no_view, no_index, one_table, IsNamed, defined}
use Rattle.std.proofs.Common.{slice_range}
use Rattle.std.proofs.lemmas.List.Folds.{list_any-append}
use Rattle.keyed_table.specs.Tables.{keyed_table, IsTableAt, HasCatalogText}
use Rattle.keyed_table.specs.Stores.{IsReadyWith}
use Rattle.sqlite_ast.specs.declared.CreateTable.{CreateTable as Defined}
use Rattle.sqlite_ast.specs.declared.Statement.TheVariants as written
use Rattle.sqlite_resolve.specs.Define as define

-- nothing in the schema has the name
pub unused : (schema : Schema) (name : List ℕ) → is_used schema name ≡ false
    → (table_named schema name ≡ None) × (index_named schema name ≡ None) × (view_named schema name ≡ None)
unused schema name free = (no_table schema name free, no_index_of schema name free, no_view_of schema name free)

-- the text creates this table, and does nothing else; computation proves it
pub record IsCreateText (table : Table) (sql : List ℕ) : Type 0 where
  pub table_is : table_defined_by sql ≡ Ok table
  pub makes : (schema : Schema) → is_used schema table.name ≡ false
      → CompilesTo schema sql CreateTable × (statement_of sql (understood schema sql) ≡ sql)

-- the text is the CREATE of this table; each default is a literal or the time, and ON CONFLICT names only ABORT
module _ {text : List ℕ} (table : Table) {def : Defined} (it : ParsesAs text (written.CreateTable def))
    (whole : slice_range text it.parsed.start it.parsed.end ≡ text) (named : def.name ≡ table.name)
    (own : is_reserved def.name ≡ false) (is : define.table [] def ≡ Ok table)
    (computed : (length table.computed == length table.stamps.places && not def.resolves) ≡ true)
    (schema : Schema) (free : is_used schema table.name ≡ false) where
  meant : create_table schema [] def ≡ Ok CreateTable
  unfolding create_table is_attached creates
  meant = let none = unused schema def.name (rw named free) in rw (none.2, none.0, none.1, own, is, computed)

  pub makes : CompilesTo schema text CreateTable × (statement_of text (understood schema text) ≡ text)
  unfolding timed returning command
  makes =
      let alone = ap (statement_of text) (understood_as schema _ it refl (λ base. refl) (λ base. meant)) ∙ whole in
      (means schema _ it refl (λ base. refl) (λ base. meant), alone)

none_in : {X : Type 0} (test : X → Bool) (xs : List X) → position_from test 0 xs ≡ None
    → AllByRecursion (λ x. test x ≡ false) xs
none_in test xs none = all_from _ xs (λ x. none_placed test xs 0 x none)

-- in a sound database, a table that no other object affects is found by its name, at some index of the schema
pub lone_stands : (db : Database) → IsDatabase db → {name : List ℕ} {table : Table} → IsLone db.schema name table
    → (at : ℕ) × IsTableAt db.schema name table at
lone_stands db sound {name} {table} it =
    let only = one_table db sound table it.listed name it.named in
    let at = only_at (λ t. same_name t.name name) db.schema.tables table it.listed it.named only in
    let low = table_low db sound table it.listed in
    let stored : nat_le (2 ^ 31) table.tree ≡ false = grind (arith, nat_tests, low) in
    let classes = ap (option_map row_classes) (find_only (λ t. t.tree == table.tree) db.schema.tables table it.listed
    (eq-eqb _ _ refl) (search (arith, all_has, eqb-true))) in
    (at.0, search)

-- the table exists, no other object affects it, and it has these rows
pub record HoldsRows (table : Table) (rows : List Row) (db : Database) : Type 0 where
  pub lone : IsLone db.schema table.name table
  pub rows_are : db.trees table.tree ≡ rows

-- the new database also has this table, with the same rows
pub record IsKept (old new : Database) (table : Table) : Type 0 where
  pub listed : Has new.schema.tables table
  pub same : new.trees table.tree ≡ old.trees table.tree

-- a table is written
module _ {before : Database} (after : Database) (schema : after.schema ≡ before.schema) {table : Table}
    {rows : List Row} (h : HoldsRows table rows before) where
  pub written_holds : (now : List Row) → after.trees table.tree ≡ now → HoldsRows table now after
  written_holds now are = record { lone = rw schema h.lone; rows_are = are }

  pub written_keeps : {tree : ℕ} → SparesOthers before.schema tree before.trees after.trees → table.tree ≢ tree
      → HoldsRows table rows after
  written_keeps others apart = written_holds rows (others.tables table h.lone.listed apart ∙ h.rows_are)

-- ---- a table is created

sequence_is : (schema : Schema) → is_some (sequence schema)
    ≡ list_any (λ t. same_name t.name (codes "sqlite_sequence")) schema.tables
sequence_is schema = elim (none_or_some (table_named schema (codes "sqlite_sequence"))) [
  | inl none ↦ search (arith, any_from_none, none_in)
  | inr (at, is) ↦ let found = found_at _ at schema.tables is in
      rw (is, found.1, some_from _ schema.tables found.0 (has_got schema.tables at found.0 found.1) found.2)
]

-- a table without AUTOINCREMENT does not need `sqlite_sequence`
still_counted : (schema : Schema) (table : Table) → table.is_counted ≡ false → lacks_sequence schema ≡ false
    → lacks_sequence (created schema table) ≡ false
still_counted schema table plain lacks = elim (and_cases _ _ lacks) [
  | inl none ↦ and_left _ _ (list_any-append (λ (t : Table). t.is_counted) schema.tables
      (record table { tree = next_tree schema } ∷ []) ∙ or_from _ _ none (or_from _ _ plain refl))
  | inr has ↦ and_right _ _ (not_from_true _ (sequence_is (created schema table) ∙ list_any-append (λ (t : Table).
      same_name t.name (codes "sqlite_sequence")) schema.tables (record table { tree = next_tree schema } ∷ [])
      ∙ rw (sym (sequence_is schema) ∙ not-false _ has)))
]

-- the table was created and is empty, and all other tables keep their rows
pub record IsCreated (table : Table) (old new : Database) : Type 0 where
  pub schema_is : new.schema ≡ created old.schema table
  pub empty : new.trees (next_tree old.schema) ≡ []
  pub others : KeepsRows old.schema.tables old.trees new.trees
  pub sound : IsDatabase new

pub executed_creates : {table : Table} {sql : List ℕ} → IsCreateText table sql → table.is_counted ≡ false
    → (old new : State) (count : ℕ) → is_used old.now.schema table.name ≡ false → lacks_sequence old.now.schema ≡ false
    → Executes sql [] old new (Ok count) → IsCreated table old.now new.now
executed_creates {table} {sql} text uncounted old new count unused sequenced ran =
    let makes = text.makes old.now.schema unused in
    let result = runs_as sql [] old new old.now.schema refl CreateTable makes.0.is makes.0.is_plain count ran in
    let made = went result.changed in
    let both = went made.1 in
    let defined = subst (λ t. table_defined_by t ≡ Ok both.1.table) makes.1 both.1.defined in
    let is : both.0.schema ≡ created old.now.schema table = cc (defined, text.table_is, both.1.is) in
    let same : made.0 ≡ both.0 = search (arith, same_value, MatchBool-at_false, still_counted) in
    let now = ap (λ (p : Tally × Database). p.1) (same_value made.2) ∙ same in
    record { schema_is = rw now is; empty = rw now both.1.empty; others = rw now both.1.others; sound = result.sound }

module _ {name : List ℕ} {columns : List Column} {checks : List Term} {old new : Database}
    (it : IsCreated (keyed_table name 0 columns checks) old new) where
  abbrev pub new_table : Table
  new_table = keyed_table name (next_tree old.schema) columns checks

  pub created_all : (P : Table → Type 0) → AllByRecursion P old.schema.tables → P new_table
      → AllByRecursion P new.schema.tables
  created_all P all one = rw it.schema_is (all-append P old.schema.tables (new_table ∷ []) all (one, tt))

  -- no index is new
  same_indexes : (P : Index → Type 0) → AllByRecursion P old.schema.indexes → AllByRecursion P new.schema.indexes
  same_indexes P all = rw it.schema_is (all-append P old.schema.indexes [] all tt)

  -- no other table has the tree of the new table
  pub created_apart : (table : Table) → Has old.schema.tables table → table.tree ≢ next_tree old.schema
  created_apart table has e = let low = table_below old.schema table has in omega (arith, low, e)

  pub created_is_kept : (table : Table) → Has old.schema.tables table → IsKept old new table
  created_is_kept table has = search (arith, has_left, all_has)

  pub created_keeps : {table : Table} {rows : List Row} → HoldsRows table rows old → HoldsRows table rows new
  created_keeps {table} h = search (arith, created_is_kept, created_all, created_apart, same_indexes)

  pub created_holds : IsDatabase old → AllByRecursion (HasNoReferenceTo name) old.schema.tables
      → HoldsRows new_table [] new
  created_holds sound unreferenced =
      let indexes = same_indexes (λ index. index.table ≢ next_tree old.schema)
      (search (arith, all_from, zipped_left, created_apart, index_owner)) in
      let listed : Has new.schema.tables new_table = search (arith, has_right) in
      let others = all_from (TreeHasName name (next_tree old.schema)) old.schema.tables
      (search (arith, created_apart)) in
      search (same_itself, created_all)

  pub created_unused : (other : List ℕ) → same_name name other ≡ false → is_used old.schema other ≡ false
      → is_used new.schema other ≡ false
  created_unused other apart free =
      let none = unused old.schema other free in
      let tables = created_all _ (none_in _ old.schema.tables none.0) apart in
      let indexes = same_indexes _ (none_in _ old.schema.indexes none.1) in
      let views = none_in _ old.schema.views none.2 in
      search (arith, none_at)

  pub created_sequence : lacks_sequence old.schema ≡ false → lacks_sequence new.schema ≡ false
  created_sequence sequenced =
      rw it.schema_is (still_counted old.schema (keyed_table name 0 columns checks) refl sequenced)

-- ---- a table is dropped

-- the table in this tree was dropped, and all other tables keep their rows
pub record IsDropped (tree : ℕ) (old new : Database) : Type 0 where
  pub schema_is : new.schema ≡ without_table old.schema tree
  pub others : KeepsRows new.schema.tables old.trees new.trees
  pub sound : IsDatabase new

-- no foreign key acts when rows are deleted from a table that no foreign key refers to
unacted : (schema : Schema) (keys : Keys) (table : Table) → AllByRecursion (HasNoReferenceTo table.name) schema.tables
    → is_acted_on schema keys table ≡ false
unacted schema keys table spares = search (arith, any_from_none, all_weaker, same_name_symmetric)

pub executed_drops : {table : Table} {rows : List Row} {sql : List ℕ} → table.is_counted ≡ false → (old new : State)
    (count : ℕ) → IsDatabase old.now → HoldsRows table rows old.now
    → ((at : ℕ) → IsTableAt old.now.schema table.name table at → view_named old.now.schema table.name ≡ None
    → CompilesTo old.now.schema sql (DropTable at))
    → Executes sql [] old new (Ok count) → IsDropped table.tree old.now new.now
executed_drops {table} {sql = sql} uncounted old new count sound h means ran =
    let schema = old.now.schema in
    let at = lone_stands old.now sound h.lone in
    let meant = means at.0 at.1 (search (arith, same_name, none_at, no_view)) in
    let result = runs_as sql [] old new schema refl (DropTable at.0) meant.is meant.is_plain count ran in
    let emptied = went (rw at.1.there at result.changed) in
    let counts = went emptied.2 in
    let left = went (went counts.2).2 in
    let same : counts.0 ≡ old.now.trees = search (arith, same_value, MatchBool-at_false, unacted) in
    let is : new.now ≡ left.0 = search (arith, same_value) in
    let others = subst (λ was. KeepsRows (without_table schema table.tree).tables was left.0.trees) same left.1.1 in
    record { schema_is = rw is left.1.0; others = rw (is, left.1.0) others; sound = result.sound }

module _ {tree : ℕ} {old new : Database} (it : IsDropped tree old new) where
  pub dropped_all : (P : Table → Type 0) → AllByRecursion P old.schema.tables → AllByRecursion P new.schema.tables
  dropped_all P all = rw it.schema_is (all-filter P (λ t. not (t.tree == tree)) old.schema.tables all)

  pub dropped_is_kept : (table : Table) → Has old.schema.tables table → table.tree ≢ tree → IsKept old new table
  dropped_is_kept table has apart =
      let listed : Has new.schema.tables table = rw it.schema_is (search (arith, has_kept)) in
      let same =
      all_has (λ (t : Table). new.trees t.tree ≡ old.trees t.tree) new.schema.tables table it.others listed in
      record { listed = listed; same = same }

  pub dropped_keeps : {table : Table} {rows : List Row} → HoldsRows table rows old → table.tree ≢ tree
      → HoldsRows table rows new
  dropped_keeps {table} h apart = search (arith, dropped_is_kept, all-filter)

-- the name of the dropped table is free
pub dropped_unused : {table : Table} {rows : List Row} {old new : Database} → IsDropped table.tree old new
    → IsDatabase old → HoldsRows table rows old → is_used new.schema table.name ≡ false
dropped_unused {table} {old = old} it sound h =
    rw it.schema_is (search (arith, none_at, all_from, has_filtered, one_table, all-filter, no_index, no_view))

-- ---- the first map of a table: empty after CREATE, or the map of the rows that an open finds

-- if a table that no other object affects has the rows of a map, the database holds the map
pub holds_map : {V : Type 0} (c : Codec V) {db : Database} → IsDatabase db → {tree : ℕ} {rows : List Row}
    → HoldsRows (table_of c tree) rows db → {m : FinMap nat_cmp V} → AreMap c rows m → HoldsMap c db m
holds_map c {db} sound {tree} h {m} are =
    let stands = lone_stands db sound h.lone in
    record { tree = tree; at = stands.0; stands = stands.1; lone = h.lone; rows = rw h.rows_are are }

module _ {V : Type 0} (c : Codec V) {sql : List ℕ} (text : IsCreateText (table_of c 0) sql) (old new : State)
    (count : ℕ) (admits : AdmitsTable c.name old.now.schema) (sound : IsDatabase old.now)
    (ran : Executes sql [] old new (Ok count)) where
  pub created_state : IsCreated (table_of c 0) old.now new.now
  created_state = executed_creates text refl old new count admits.unused admits.sequence_allowed ran

  pub created_map_is_empty : HoldsMap c new.now empty
  created_map_is_empty = holds_map c created_state.sound (created_holds created_state sound admits.unreferenced)
      (record { valid = tt; differ = tt; is = refl })

  pub creation_keeps_others : {W : Type 0} (d : Codec W) {m : FinMap nat_cmp W} → HoldsMap d old.now m
      → HoldsMap d new.now m
  creation_keeps_others d h =
      holds_map d created_state.sound (created_keeps created_state {table = table_of d h.tree}
      (record { lone = h.lone; rows_are = refl })) h.rows

-- if no transaction was open, CREATE leaves the connection ready with the empty map
pub created_is_ready : {V : Type 0} (c : Codec V) {sql : List ℕ} → IsCreateText (table_of c 0) sql → (old new : State)
    (r : Result ℕ Error) → old.in_transaction ≡ false → AdmitsTable c.name old.now.schema → IsDatabase old.now
    → Executes sql [] old new r → OnOk r (IsReadyWith (HoldsMap c) new empty)
created_is_ready c text old new (Err e) idle admits sound ran = tt
created_is_ready c {sql} text old new (Ok count) idle admits sound ran =
    let makes = text.makes old.now.schema admits.unused in
    let result = runs_as sql [] old new old.now.schema refl CreateTable makes.0.is makes.0.is_plain count ran in
    let committed = rw idle at result.shown.committed_is in
    let holds = created_map_is_empty c text old new count admits sound ran in
    search

-- a table that is listed with the text, and that no other object affects, holds the map of its rows
pub found_map : {V : Type 0} (c : Codec V) {sql : List ℕ} → IsCreateText (table_of c 0) sql → (db : Database)
    → IsDatabase db → {tree : ℕ} (n : IsNamed db.schema c.name tree) → HasCatalogText db.trees c.name sql
    → AllByRecursion (TreeHasName c.name tree) db.schema.tables
    → AllByRecursion (HasNoReferenceTo c.name) db.schema.tables
    → AllByRecursion (λ index. index.table ≢ tree) db.schema.indexes → {m : FinMap nat_cmp V}
    → AreMap c (db.trees tree) m → HoldsMap c db m
found_map c {sql} text db sound {tree} n listed keeps unreferenced unindexed rows =
    let is = defined db sound c.name tree n sql (table_of c 0) listed text.table_is in
    let there : slice_get db.schema.tables n.at ≡ Some (table_of c tree) = n.there ∙ ap Some is.0 in
    let named = has_name db.schema c.name n.at (table_of c tree) n.named there in
    let lone : IsLone db.schema c.name (table_of c tree) = search has_got in
    holds_map c sound (record { lone = lone; rows_are = refl }) rows

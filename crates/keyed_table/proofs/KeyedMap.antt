-- The statements on a table with an integer key: their effect on the trees, and on the map that the rows encode.
use Rattle.keyed_table.proofs.Common.{◌≡◌, ◌≢◌, inl, inr, ℕ, false, List, [], ◌∷◌, length, Option, None, Some, refl}
use Rattle.keyed_table.proofs.Common.{◌==◌, ◌<◌, ◌⊎◌, ℤ, Bool, true, Ok, Err, Result, if◌then◌else◌, MatchBool, sym, ap}
use Rattle.keyed_table.proofs.Common.{subst, ◌∙◌, slice_get, arith, pos, map, IsPermutation, nat_cmp, AllByRecursion}
use Rattle.keyed_table.proofs.Common.{flat_map, Row, Schema, Table, Keys, same_name, IsLone, HasNoReferenceTo}
use Rattle.keyed_table.proofs.Common.{TreeHasName, Query, IsAnswer, overlay, Insert, Update, Delete, Null, Mode}
use Rattle.keyed_table.proofs.Common.{Command, catalog_tree, Trees, put_row, rowid, Has, all_has, all_from, IsTableRow}
use Rattle.keyed_table.proofs.Common.{zipped_left, same_rowid, Chosen, Given, edit_of, edited, without_all, ids_of}
use Rattle.keyed_table.proofs.Common.{Database, IsDatabase, Tally, program_of, lookup_params, find_query, rows_query}
use Rattle.keyed_table.proofs.Common.{cast_row, all-permutation, all_weaker, insert, remove, FinMap, get, entries, len}
use Rattle.keyed_table.proofs.Common.{IsPermutation-trans, Collation, eval_all, Index, none_from_any, any_from_none}
use Rattle.keyed_table.proofs.Common.{HasKey, AreKeyed, map_of, Values, CompilesTo, State, Shown, mode_of, count, Codec}
use Rattle.keyed_table.proofs.Common.{table_of, IsCodec, SqlTextsCompile, AreMap, HoldsMap}
use Rattle.std.specs.List.{filter_map}
use Rattle.sqlite_schema.specs.declared.schema.Reference.{Reference}
use Rattle.sqlite_rules.specs.Keys.{AreConflicts, conflicts}
use Rattle.sqlite_schema.specs.Rules.{ParentKey, parent_key}
use Rattle.sqlite_rules.specs.Action.{works, work_for, work_by, deed_for, pairs, Writes}
use Rattle.sqlite_rules.specs.declared.action.Deed.{Deed}
use Rattle.keyed_table.proofs.ListedTables.{same_name_symmetric, same_as_third}
use Rattle.sqlite.specs.Source.{Source}
use Rattle.sqlite.specs.Command.TheVariants.{InsertOr, Select as Selects}
use Rattle.sqlite_rules.proofs.PlaceLemmas.{named_parent}
use Rattle.sqlite_rules.specs.declared.error.Rowids.{Rowids}
use Rattle.sqlite_rules.specs.declared.error.Rowids.TheVariants.{Above}
use Rattle.sqlite_rules.specs.Edit.{Edit, Applies, IsNoIndex, with_rowid, is_taken, id_in, numbered}
use Rattle.sqlite.specs.Effect.{IsSource}
use Rattle.sqlite.specs.Does.{AtPlace, OnRows, WritesRows}
use Rattle.sqlite.specs.Rows.{Written, Task, stamped, count_of, nothing, mended, Puts, Clears, Tries, TriesEach}
use Rattle.sqlite.proofs.Callers.{one_step, reads_as}
use Rattle.sqlite_schema.specs.declared.command.Conflict.TheVariants.{Replace}
use Rattle.sqlite_rules.specs.Steps.{IsJudged}
use Rattle.sqlite_trees.proofs.ListLemmas.{all-map}
use Rattle.sqlite_rules.proofs.TableLemmas.{without_all_has}
use Rattle.sqlite_sql.specs.Term.{Term, col}
use Rattle.sqlite_value.specs.Keys.{first_key}
use Rattle.sqlite_sql.specs.Ops.{binary}
use Rattle.keyed_table.specs.Rows.{entry_of}
use Rattle.keyed_table.proofs.RowsAsMap.{truth_alone, shows_all, env_of, remove_absent, ranked_permutes, IsFound}
use Rattle.keyed_table.proofs.RowsAsMap.{key_is, put_keeps_map, insert_without, keyed_without_all, keyed_turned}
use Rattle.keyed_table.proofs.RowsAsMap.{map_without, ranked, apart_from, differ_from, entries_ranked}
use Rattle.sqlite_trees.proofs.TreeLemmas.{all-put_row}
use Rattle.keyed_table.proofs.Statements.{turned, CommitsWithRoom, AlwaysCommits}
use Rattle.keyed_table.proofs.RowsAsMap as answers

module _ (schema : Schema) (name : List ℕ) (tree : ℕ) (keeps : AllByRecursion (TreeHasName name tree) schema.tables)
    (keys : Keys) (olds news : List Row) where
  -- a reference to a table with another name triggers no action
  no_work : (child : Table) (reference : Reference) → same_name reference.parent name ≡ false → (deed : Option Deed)
      (key : Option ParentKey) → parent_key schema.tables reference ≡ key
      → work_by 0 tree (pairs olds news) child reference deed key ≡ None
  no_work child reference spares deed key is = search (arith, named_parent, same_as_third, same_name_symmetric, all_has)

  none_of : (child : Table) (references : List Reference)
      → AllByRecursion (λ reference. same_name reference.parent name ≡ false) references
      → filter_map (work_for schema keys 0 tree olds news child) references ≡ []
  none_of child [] spares = refl
  none_of child (reference ∷ references) spares =
      rw (no_work child reference spares.0 (deed_for keys (length news == 0) reference) _ refl)
      (none_of child references spares.1)

  none_in : (tables : List Table) → AllByRecursion (HasNoReferenceTo name) tables
      → flat_map (λ child. filter_map (work_for schema keys 0 tree olds news child) child.references) tables ≡ []
  none_in [] spares = refl
  none_in (child ∷ tables) spares = rw (none_of child child.references spares.0) (none_in tables spares.1)

-- a step on the table in this tree triggers no action
abbrev pub StandsAlone : Schema → (tree : ℕ) → Type 0
StandsAlone schema tree = (keys : Keys) (olds news : List Row) → works schema keys 0 tree olds news ≡ []

pub lone_alone : {schema : Schema} {name : List ℕ} {table : Table} → IsLone schema name table
    → StandsAlone schema table.tree
lone_alone {schema} {name} {table} it keys olds news =
    none_in schema name table.tree it.keeps keys olds news schema.tables it.unreferenced

-- the rows of the other tables are unchanged, and so is the list of objects
pub record SparesOthers (schema : Schema) (tree : ℕ) (before after : Trees) : Type 0 where
  pub tables : (t : Table) → Has schema.tables t → t.tree ≢ tree → after t.tree ≡ before t.tree
  pub objects : tree ≢ catalog_tree → IsNoIndex schema catalog_tree → after catalog_tree ≡ before catalog_tree

spares : (schema : Schema) (keys : Keys) (db next : Trees) (edit : Edit) → Applies schema keys db edit next
    → SparesOthers schema edit.table.tree db next
spares schema keys db next edit step = search (arith, all_has)

pub table_low : (db : Database) → IsDatabase db → (t : Table) → Has db.schema.tables t → t.tree < 65536
table_low db sound t has = (zipped_left IsTableRow _ db.schema.tables t sound.lists.listed.tables has).2.described.low

-- neither a table nor an index of a sound database is in the tree of the list of objects
pub objects_spared : (db : Database) → IsDatabase db → (t : Table) → Has db.schema.tables t → (after : Trees)
    → SparesOthers db.schema t.tree db.trees after → after catalog_tree ≡ db.trees catalog_tree
objects_spared db sound t has after spared = search (arith, all_from, zipped_left)

-- no part of a statement failed if the statement succeeded
pub went : {B E R : Type 0} {b : B} {Stops : E → Type 0} → ((crash : E) × Stops crash × (Ok b ≡ Err crash)) ⊎ R → R
went done = search arith

pub same_value : {B E : Type 0} {a b : B} → ◌≡◌ {A = Result B E} (Ok a) (Ok b) → a ≡ b
same_value e = cc

-- equal results have equal trees
same_trees : {E : Type 0} {v w : Written} → ◌≡◌ {A = Result Written E} (Ok v) (Ok w) → v.trees ≡ w.trees
same_trees e = ap (λ (w : Written). w.trees) (same_value e)

-- a table without AUTOINCREMENT counts no rowids
uncounts : (b c : Bool) (A B : Type 0) → b ≡ false → MatchBool (if b then c else false) A B → B
uncounts b c A B uncounted counts = search arith

-- the statement applied this edit to its table, and changed nothing else
pub record IsStep (schema : Schema) (db : Trees) (edit : Edit) (after : Database) : Type 0 where
  pub schema_is : after.schema ≡ schema
  pub rows : after.trees edit.table.tree ≡ edited db edit
  pub others : SparesOthers schema edit.table.tree db after.trees

-- a statement on the rows of a table
abbrev pub task_of : Schema → Option ℕ → Mode → Row → Table → Task
task_of schema limit mode params table =
    record { limit = limit; keys = mode.keys; schema = schema; table = table; params = params }

-- the command, on the table at this index, returns this tally and leaves this database
abbrev pub Did : Schema → Option ℕ → Mode → Row → Trees → ℕ → Command → Tally → Database → Type 0
Did schema limit mode params db at command tally after =
    AtPlace (λ table. OnRows (task_of schema limit mode params table) mode None command db) (slice_get schema.tables at)
    (Ok (tally, after))

-- the rows that conflict with the new row are deleted, and the new row is inserted
pub record IsUpserted (schema : Schema) (table : Table) (new : Row) (before after : Trees) : Type 0 where
  pub judged : IsJudged table new None
  pub found : List Row
  pub conflicting : AreConflicts None schema.indexes table (before table.tree) new found
  pub fresh : is_taken (without_all (before table.tree) (ids_of found)) new ≡ false
  pub rows : after table.tree ≡ put_row new (without_all (before table.tree) (ids_of found))
  pub others : SparesOthers schema table.tree before after

module _ (schema : Schema) (at : ℕ) (table : Table) (there : slice_get schema.tables at ≡ Some table)
    (stands : StandsAlone schema table.tree) (limit : Option ℕ) (mode : Mode) (params : Row) where
  abbrev task : Task
  task = task_of schema limit mode params table

  -- no foreign key acts, so a write is its one step
  applied : (db next : Trees) (gone : List ℤ) (rowids : Rowids) (from : ℕ) (sources : List Row)
      → Writes schema mode.keys db (edit_of db table gone rowids from sources) (Ok next)
      → Applies schema mode.keys db (edit_of db table gone rowids from sources) next
  applied db next gone rowids from sources = search one_step

  module _ (db : Trees) (tally : Tally) (after : Database) where
    -- the database and the count that a statement on the table leaves
    concludes : (command : Command) → Did schema limit mode params db at command tally after
        → (w : Written) × WritesRows task db command (Ok w)
        × (after ≡ record { schema = schema; trees = w.trees }) × (tally.rows ≡ Some (length w.rows))
    concludes command did = search arith

    step : (gone : List ℤ) (rowids : Rowids) (from : ℕ) (sources : List Row) (next written : Trees)
        → Writes schema mode.keys db (edit_of db table gone rowids from sources) (Ok next) → written ≡ next
        → after ≡ record { schema = schema; trees = written }
        → IsStep schema db (edit_of db table gone rowids from sources) after
    step gone rowids from sources next written writes same is =
        let applies = applied db next gone rowids from sources writes in
        let others = spares schema mode.keys db next _ applies in
        rw (is, same) (record { schema_is = refl; rows = applies.rows; others = others })

    -- DELETE: the rows that the query shows are deleted
    pub deletes : (q : Query) → Did schema limit mode params db at (Delete at (program_of q)) tally after
        → (rows : List Row) × IsAnswer q (overlay db []) params rows
        × IsStep schema db (edit_of db table (ids_of rows) Given 0 []) after
    deletes q did =
        let concluded = concludes (Delete at (program_of q)) did in
        let queried = went concluded.1 in
        let edited = went queried.2 in
        let done = step (ids_of queried.0) Given 0 [] _ _ edited.1 (same_trees edited.2) concluded.2 in
        (queried.0, queried.1.answer Null, done)

    -- UPDATE: each row that the query shows is replaced
    pub updates : (q : Query) → Did schema limit mode params db at (Update at (program_of q)) tally after
        → (rows : List Row) × IsAnswer q (overlay db []) params rows
        × IsStep schema db (edit_of db table (ids_of rows) Given 1 rows) after
        × (tally.rows ≡ Some (length (edit_of db table (ids_of rows) Given 1 rows).news))
    updates q did =
        let concluded = concludes (Update at (program_of q)) did in
        let queried = went concluded.1 in
        let edited = went queried.2 in
        let done = step (ids_of queried.0) Given 1 queried.0 edited.0 concluded.0.trees edited.1 (same_trees edited.2)
        concluded.2 in
        (queried.0, queried.1.answer Null, done, concluded.3 ∙ ap (λ w. Some (length w.rows)) (same_value edited.2))

    -- INSERT: the rows that the source gives are inserted
    pub inserts : (source : Source) → table.is_counted ≡ false
        → Did schema limit mode params db at (Insert at source) tally after
        → (rows : List Row) × IsSource (record { schema = schema; trees = db }) (stamped table params) source rows
        × IsStep schema db (edit_of db table [] Chosen 0 rows) after
    inserts source uncounted did =
        let concluded = concludes (Insert at source) did in
        let given = went concluded.1 in
        let counted = went given.2 in
        let edited = went counted.2 in
        let ended = went edited.2 in
        let done = step [] Chosen 0 given.0 edited.0 concluded.0.trees
        (subst (λ b. Writes schema mode.keys db (edit_of db table [] (if b then Above (count_of counted.0) else
        Chosen) 0 given.0) (Ok edited.0)) uncounted edited.1)
        (same_trees ended.2 ∙ same_value (uncounts table.is_counted _ _ _ uncounted ended.1)) concluded.2 in
        (given.0, given.1, done)

  module _ (new : Row) (cast : cast_row table new ≡ new) where
    -- the row was inserted beside these rows, and nothing else changed
    abbrev IsInserted : List Row → Trees → Trees → Type 0
    IsInserted rows before after = (after table.tree ≡ put_row new rows)
        × SparesOthers schema table.tree before after × (is_taken rows new ≡ false)

    puts : (db : Trees) (w : Written) → Puts task new db (Ok w) → IsInserted (db table.tree) db w.trees
    puts db w h =
        let done = went h in
        let step = applied db done.0 [] Given 0 (new ∷ []) done.1 in
        let others = spares schema mode.keys db done.0 _ step in
        subst (IsInserted (db table.tree) db) (sym (same_trees done.2)) (search (arith, others))

    clears : (db : Trees) (found : List Row) (w : Written) → Clears task Replace new db found (Ok w)
        → IsInserted (without_all (db table.tree) (ids_of found)) db w.trees
    clears db [] w h = puts db w h
    clears db (x ∷ more) w h =
        let done = went h in
        let step = applied db done.0 (ids_of (x ∷ more)) Given 0 [] done.1 in
        let first = spares schema mode.keys db done.0 _ step in
        let put = puts done.0 w done.2 in (rw step.rows at put.0, search arith, rw step.rows at put.2)

    tries : (db : Trees) (w : Written) → Tries task Replace [] new db (Ok w) → IsUpserted schema table new db w.trees
    tries db written tried = search (arith, clears)

    pub upserts : (source : Source) (db : Trees) (tally : Tally) (after : Database) → table.is_counted ≡ false
        → ((rows : List Row) → IsSource (record { schema = schema; trees = db }) (stamped table params) source rows
        → (sent : Row) × (rows ≡ sent ∷ [])
        × (with_rowid Chosen (db table.tree) (cast_row table (mended Replace table sent)) ≡ new))
        → Did schema limit mode params db at (InsertOr at Replace source []) tally after
        → (after.schema ≡ schema) × IsUpserted schema table new db after.trees
    upserts source db tally after uncounted sends did =
        let concluded = concludes db tally after (InsertOr at Replace source []) did in
        let given = went concluded.1 in
        let counted = went given.2 in
        let tried = went counted.2 in
        let ended = went tried.2 in
        let sent = sends given.0 given.1 in
        let each = went (subst (λ rows. TriesEach task Replace [] rows (count_of counted.0) (nothing db) (Ok tried.0))
        sent.1 tried.1) in
        let row = ap (λ b. with_rowid (if b then Above (count_of counted.0) else Chosen) (db table.tree)
        (cast_row table (mended Replace table sent.0))) uncounted ∙ sent.2 in
        let trees : after.trees ≡ each.0.trees = ap (λ (d : Database). d.trees) concluded.2 ∙ same_trees ended.2
        ∙ same_value (uncounts table.is_counted _ _ _ uncounted ended.1)
        ∙ ap (λ (p : Written × ℤ). p.0.trees) (same_value each.2) in
        let done = tries db each.0 (subst (λ row. Tries task Replace [] row db (Ok each.0)) row each.1) in
        (ap (λ (d : Database). d.schema) concluded.2, rw trees done)

all_without_all : (P : Row → Type 0) (rows : List Row) (gone : List ℤ) → AllByRecursion P rows
    → AllByRecursion P (without_all rows gone)
all_without_all P rows gone all = all_from P _ (λ x has. all_has P rows x all (without_all_has gone rows x has))

-- if no index is on the table, a row conflicts with a new row only if both have the same key
conflicts_by_key : (indexes : List Index) (table : Table) (new r : Row) (key : HasKey new) → HasKey r
    → AllByRecursion (λ index. index.table ≢ table.tree) indexes → conflicts None indexes table new r ≡ true
    → id_in (rowid r) ≡ pos key.id
unfolding first_key binary
conflicts_by_key indexes table new r key has_key unindexed conflicting =
    search (arith, same_rowid, any_from_none, all_weaker)

-- INSERT OR REPLACE: the rows stay keyed, and their map has the new row
upserted : {V : Type 0} (value : Row → V) (schema : Schema) (table : Table) (new : Row) (before after : Trees)
    (it : IsUpserted schema table new before after) (key : HasKey new) → AreKeyed (before table.tree)
    → AllByRecursion (λ index. index.table ≢ table.tree) schema.indexes → AreKeyed (after table.tree)
    × (map_of value (after table.tree) ≡ insert (map_of value (before table.tree)) key.id (value new))
upserted value schema table new before after it key keyed unindexed =
    let put = put_keeps_map value new _ key (search none_from_any) (search keyed_without_all) in
    let is = sym put.1 ∙ rw (key_is new key) (insert_without value (before table.tree) (ids_of it.found)
    key.id (value new) keyed.keys (all-map _ (λ x. id_in (rowid x)) it.found (all_from _ it.found (λ x there.
    let one = it.conflicting.sound x there in
    rw one.3 (conflicts_by_key schema.indexes table new one.0 key
    (all_has HasKey (before table.tree) one.0 keyed.keys one.1) unindexed one.2))))) in
    rw it.rows (put.0, is)

given_key : (there : List Row) (row : Row) → HasKey row → with_rowid Chosen there row ≡ row
given_key there row it = rw it.id_is

-- rows with keys are stored as they are given, if the types of the columns leave them unchanged
stored_as_given : (table : Table) (rows there : List Row) → AllByRecursion HasKey rows
    → AllByRecursion (λ r. cast_row table r ≡ r) rows → numbered Chosen there (map (λ s. cast_row table s) rows) ≡ rows
stored_as_given table [] there keys cast = refl
stored_as_given table (row ∷ rows) there keys cast =
    let own = ap (with_rowid Chosen there) cast.0 ∙ given_key there row keys.0 in
    rw (own, stored_as_given table rows (put_row row there) keys.1 cast.1)

-- INSERT .. SELECT into an empty table: it has the rows that the query shows
pub copies : {shown : List Term} {collations : List Collation} (schema : Schema) (table : Table) (d : ℕ) (db : Trees)
    (rows : List Row) (after : Database) → IsAnswer (rows_query d [] shown collations []) (overlay db []) [] rows
    → IsStep schema db (edit_of db table [] Chosen 0 rows) after → db table.tree ≡ []
    → AreKeyed (map (λ r. eval_all shown (env_of [] r)) (db d))
    → AllByRecursion (λ r. cast_row table r ≡ r) (map (λ r. eval_all shown (env_of [] r)) (db d))
    → IsPermutation (map (λ r. eval_all shown (env_of [] r)) (db d)) (after.trees table.tree)
copies {shown} schema table d db rows after a step none keyed cast =
    let given = map (λ r. eval_all shown (env_of [] r)) (db d) in
    let turned : IsPermutation given rows = shows_all db a in
    let there = keyed_turned given rows turned keyed in
    let stored = all-permutation (λ r. cast_row table r ≡ r) given rows turned cast in
    IsPermutation-trans given rows (after.trees table.tree) turned
    (rw (step.rows, none, stored_as_given table rows [] there.keys stored) (ranked_permutes rows there))

-- ---- the statements of a codec

module _ {V : Type 0} (c : Codec V) where
  -- only the rows of the table in this tree changed, and they encode this map
  pub record IsWritten (before after : Database) (tree : ℕ) (m : FinMap nat_cmp V) : Type 0 where
    pub schema_is : after.schema ≡ before.schema
    pub others : SparesOthers before.schema tree before.trees after.trees
    pub rows : AreMap c (after.trees tree) m

  pub written : {before after : Database} {m next : FinMap nat_cmp V} (h : HoldsMap c before m)
      → IsWritten before after h.tree next → HoldsMap c after next
  written h changed = search arith

-- what a query shows is an answer over the trees
pub answer_of : {schema : Schema} {text : List ℕ} {q : Query} {names : List (List ℕ)} (params : Row) (old new : State)
    (rows : List Row) → CompilesTo schema text (Selects (program_of q) names) → old.now.schema ≡ schema
    → Shown text params old new rows → IsAnswer q (overlay old.now.trees []) params rows
answer_of {schema} {text} params old new rows it has h =
    (reads_as text params old new schema has _ it.is it.is_plain it.reads_no_listing rows h).answer Null

pub keyed : {V : Type 0} {c : Codec V} → IsCodec c → {rows : List Row} {m : FinMap nat_cmp V} → AreMap c rows m
    → AreKeyed rows
keyed {c = c} codec {rows} it = search (all_weaker, apart_from)

module _ {V : Type 0} (c : Codec V) (codec : IsCodec c) (meant : SqlTextsCompile c) where
  module _ (old new : State) (m : FinMap nat_cmp V) (h : HoldsMap c old.now m) (rows : List Row) where
    -- the row of a key, or none
    pub looks_up : (id : ℕ) → Shown c.find_sql (lookup_params id) old new rows
        → IsFound c.value (get m id) id (λ r. eval_all c.select_terms (env_of (lookup_params id) r)) rows
    looks_up id shows = rw h.rows.is at (answers.finds c.value h.tree old.now.trees (keyed codec h.rows) id rows
        (answer_of (lookup_params id) old new rows (meant.find old.now.schema h.at h.tree h.stands) refl shows))

    -- all rows, in ascending order of key
    pub lists : Shown c.all_sql [] old new rows → (all : List Row)
        × (rows ≡ map (λ r. eval_all c.select_terms (env_of [] r)) all) × (entries m ≡ map (entry_of c.value) all)
    lists shows =
        let are = answers.lists c.value h.tree old.now.trees (keyed codec h.rows) rows
        (answer_of [] old new rows (meant.all old.now.schema h.at h.tree h.stands) refl shows) in
        let held = ap entries (sym h.rows.is) ∙ entries_ranked c.value (old.now.trees h.tree) (keyed codec h.rows) in
        (ranked (old.now.trees h.tree), are, held)

    -- the number of other keys
    pub counts : (id : ℕ) → Shown c.count_others_sql (lookup_params id) old new rows
        → rows ≡ (count (len (remove m id)) ∷ []) ∷ []
    counts id shows = rw h.rows.is at (answers.counts c.value h.tree old.now.trees (keyed codec h.rows) id rows
        (answer_of (lookup_params id) old new rows (meant.count old.now.schema h.at h.tree h.stands) refl shows))

  -- A database holds a value that contains the map of this table, and a write of the table changes the value.
  module _ {M : Type 0} {Holds : Database → M → Type 0} (part : M → FinMap nat_cmp V)
      (holds : (db : Database) (x : M) → Holds db x → HoldsMap c db (part x)) (HasRoom : M → Type 0)
      (change : M → M) where
    -- after a write that updates this part, the database holds the changed value
    abbrev pub Changes : (FinMap nat_cmp V → FinMap nat_cmp V) → Type 0
    Changes update = (before after : Database) (x : M) (h : Holds before x) → IsDatabase before → HasRoom x
        → IsWritten c before after (holds before x h).tree (update (part x)) → Holds after (change x)

    pub upserts_part : (id : ℕ) (v : V) → c.Fits id v → Changes (λ m. insert m id v)
        → CommitsWithRoom Holds c.upsert_sql (c.params id v) change HasRoom
    upserts_part id v fits changes = turned c.upsert_sql (c.params id v) change HasRoom
        (λ db x had. InsertOr (holds db x had).at Replace (Values c.upsert_terms c.upsert_width) []) (λ db x had. tt)
        (λ db x had. let h = holds db x had in meant.upsert db.schema h.at h.tree h.stands)
        (λ s after text tally x had sound room does.
        let h = holds s.now x had in
        let table = table_of c h.tree in
        let row = c.row id v in
        let key = codec.key_is id v in
        let there = s.now.trees h.tree in
        let kept : with_rowid Chosen there (cast_row table (mended Replace table row)) ≡ row =
        ap (with_rowid Chosen there) (ap (cast_row table) (codec.mends h.tree id v) ∙ codec.stored h.tree id v)
        ∙ given_key there row key in
        let upserted_row = upserts s.now.schema h.at table h.stands.there (lone_alone h.lone) s.step_limit (mode_of s)
        (c.params id v) row (codec.stored h.tree id v) (Values c.upsert_terms c.upsert_width) s.now.trees tally after
        refl (λ rows given. (row, codec.upsert_row_is s.now h.tree id v rows given, kept)) does in
        let now = upserted c.value s.now.schema table row s.now.trees after.trees upserted_row.1 key
        (keyed codec h.rows) h.lone.unindexed in
        let valid = all-put_row c.IsRow row _ (codec.passing_is_row h.tree id v fits upserted_row.1.judged)
        (all_without_all c.IsRow there (ids_of upserted_row.1.found) h.rows.valid) in
        let is = now.1 ∙ rw (codec.key_back id v, codec.back id v fits, h.rows.is) in
        let differ = differ_from (after.trees h.tree) now.0.apart in
        let rows : AreMap c (after.trees h.tree) (insert (part x) id v) =
        record { valid = rw upserted_row.1.rows valid; differ = differ; is = is } in
        changes s.now after x had sound room (search))

    pub deletes_part : (id : ℕ) → Changes (λ m. remove m id)
        → CommitsWithRoom Holds c.delete_sql (lookup_params id) change HasRoom
    deletes_part id changes = turned c.delete_sql (lookup_params id) change HasRoom
        (λ db x had. let h = holds db x had in Delete h.at (program_of (find_query h.tree (col 1 0 ∷ []))))
        (λ db x had. tt) (λ db x had. let h = holds db x had in meant.delete db.schema h.at h.tree h.stands)
        (λ s after text tally x had sound room does.
        let h = holds s.now x had in
        let there = s.now.trees h.tree in
        let deleted = deletes s.now.schema h.at (table_of c h.tree) h.stands.there (lone_alone h.lone) s.step_limit
        (mode_of s) (lookup_params id) s.now.trees tally after (find_query h.tree (col 1 0 ∷ [])) does in
        let removed : map_of c.value (without_all there (ids_of deleted.0)) ≡ remove (part x) id =
        rw (← h.rows.is) (elim (answers.finds c.value h.tree s.now.trees (keyed codec h.rows) id deleted.0 deleted.1) [
          | inl none ↦ search (arith, remove_absent)
          | inr some ↦ rw (some.2, some.3) (map_without c.value there id (keyed codec h.rows).keys)
        ]) in
        let valid = all_without_all c.IsRow there (ids_of deleted.0) h.rows.valid in
        let differ = differ_from _ (keyed_without_all there (ids_of deleted.0) (keyed codec h.rows)).apart in
        let rows : AreMap c (after.trees h.tree) (remove (part x) id) =
        rw deleted.2.rows (record { valid = valid; differ = differ; is = removed }) in
        changes s.now after x had sound room (search))

  -- an upsert inserts the value; if it fails and the connection is still open, the map is the old one; a crash leaves
  -- what it could leave before, or the new map
  pub upserts_commit : (id : ℕ) (v : V) → c.Fits id v
      → AlwaysCommits (HoldsMap c) c.upsert_sql (c.params id v) (λ m. insert m id v)
  upserts_commit id v fits old new r ready = upserts_part (λ m. m) (λ db m h. h) (λ m. Unit {0}) (λ m. insert m id v)
      id v fits (λ before after m h sound room. written c h) old new r ready (λ clean m shows. tt)

  -- DELETE of a key removes it, or fails
  pub deletes_commit : (id : ℕ) → AlwaysCommits (HoldsMap c) c.delete_sql (lookup_params id) (λ m. remove m id)
  deletes_commit id old new r ready = deletes_part (λ m. m) (λ db m h. h) (λ m. Unit {0}) (λ m. remove m id) id
      (λ before after m h sound room. written c h) old new r ready (λ clean m shows. tt)

-- ---- a database with the maps of two tables

module _ {V W : Type 0} (c : Codec V) (d : Codec W) (apart : same_name d.name c.name ≡ false) where
  -- a write of the first table keeps the map of the second
  pub keeps_other : {before after : Database} {m next : FinMap nat_cmp V} {other : FinMap nat_cmp W}
      (h : HoldsMap c before m) → HoldsMap d before other → IsWritten c before after h.tree next
      → HoldsMap d after other
  keeps_other h kept written = search (arith, all_has)

  module _ (codec : IsCodec c) (meant : SqlTextsCompile c) where
    abbrev pub HoldsBoth : Database → FinMap nat_cmp V × FinMap nat_cmp W → Type 0
    HoldsBoth db maps = HoldsMap c db maps.0 × HoldsMap d db maps.1

    pub upserts_both : (id : ℕ) (v : V) → c.Fits id v
        → AlwaysCommits HoldsBoth c.upsert_sql (c.params id v) (λ maps. (insert maps.0 id v, maps.1))
    upserts_both id v fits old new r ready = upserts_part c codec meant (λ maps. maps.0) (λ db maps h. h.0)
        (λ maps. Unit {0}) (λ maps. (insert maps.0 id v, maps.1)) id v fits
        (λ before after maps h sound room it. (written c h.0 it, keeps_other h.0 h.1 it)) old new r ready
        (λ clean maps shows. tt)

    pub deletes_both : (id : ℕ)
        → AlwaysCommits HoldsBoth c.delete_sql (lookup_params id) (λ maps. (remove maps.0 id, maps.1))
    deletes_both id old new r ready = deletes_part c codec meant (λ maps. maps.0) (λ db maps h. h.0)
        (λ maps. Unit {0}) (λ maps. (remove maps.0 id, maps.1)) id
        (λ before after maps h sound room it. (written c h.0 it, keeps_other h.0 h.1 it)) old new r ready
        (λ clean maps shows. tt)

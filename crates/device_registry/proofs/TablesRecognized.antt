-- The tables of a registry in a schema and in its list of objects, and what the tests for them imply.
use Rattle.std.proofs.lemmas.Grind.{common_steps}
use Rattle.keyed_table.proofs.Common.{inl, inr, ◌≡◌, ◌≢◌, ℕ, ◌==◌, List, [], ◌∷◌, true, false, length, filter, Some}
use Rattle.keyed_table.proofs.Common.{rules, None, Option, refl, sym, ap, ◌∙◌, arith, not, codes, subst, IsTrue, Ok}
use Rattle.keyed_table.proofs.Common.{both_ways, eqb-false, ne_eqb, not-true, or_from, AllByRecursion, table_defined_by}
use Rattle.keyed_table.proofs.Common.{lacks_sequence, Database, IsDatabase, Row, Schema, State, Shown, HasCleanDisk}
use Rattle.keyed_table.proofs.Common.{Survives, Table, table_named, any_from_none, none_from_any, is_used, same_itself}
use Rattle.keyed_table.proofs.Common.{Has, all_has, all_from, has_got, has_kept, has_filtered, all_weaker, all_both}
use Rattle.keyed_table.proofs.Common.{Trees, IsLone}
use Rattle.device_registry.proofs.Common.{TablesStatus, Absent, Present, Unusable, Version, First, Second, IsRegistryIn}
use Rattle.device_registry.proofs.Common.{IsSettledOpen, list_objects_sql, device_table_name, meta_table, device_table}
use Rattle.device_registry.proofs.Common.{NoneRefersToOurs, HasNoReferenceToOurs, HasTables, IsRegistry}
use Rattle.device_registry.proofs.Common.{AreTablesListed, HasCatalogText, admits_tables, tables_status}
use Rattle.std.proofs.Common.{◌↔◌, Decides}
use Rattle.std.proofs.lemmas.Bool.Decides.{Decides-and, Decides-eqb}
use Rattle.std.proofs.lemmas.Bool.{not_from_false}
use Rattle.std.proofs.lemmas.List.Sums.{length-filter}
use Rattle.sqlite_schema.specs.Names.{same_name}
use Rattle.sqlite_trees.proofs.ListLemmas.{ascending-filter}
use Rattle.sqlite_trees.specs.Tree.{IsAscending}
use Rattle.keyed_table.proofs.TablesKept.{unused, lone_stands}
use Rattle.keyed_table.proofs.ListedTables.{IsNamed, defined, found_at, has_name, one_database, one_table, reported}
use Rattle.keyed_table.proofs.ListedTables.{none_or_some, shows_line}
use Rattle.device_registry.proofs.StatementMeanings.{device_is, meta_text}
use Rattle.device_registry.specs.Table.{meta_name}
use Rattle.device_registry.specs.Stored.{HasNoReferenceTo, TreeHasName, MigrationAddsNoSequence, AdmitsTables, other}
use Rattle.device_registry.specs.SchemaChecks.{is_referenced, has_foreign_key_to_ours, is_indexed, has_one_table}
use Rattle.device_registry.specs.SchemaChecks.{lacks_needed_sequence_table, migration_adds_no_sequence, tree_of_table}
use Rattle.device_registry.specs.private.CatalogRows.{list_our_tables}
use Rattle.device_registry.specs.private.TablesStatus.{are_unaffected, tables_in_trees}

-- the disk was clean before
pub clean_before : {old new : State} {P : Trees → Type 0} → Survives old new P → HasCleanDisk new → HasCleanDisk old
clean_before survives clean = omega (arith, clean, survives.clean)

-- ---- the tables are independent of the other objects

module _ (schema : Schema) where
  -- no foreign key refers to our tables
  pub spares_meta : NoneRefersToOurs schema → AllByRecursion (HasNoReferenceTo meta_name) schema.tables
  spares_meta = all_weaker _ _ (λ t ours. ours.meta) schema.tables

  pub spares_devices : (version : Version) → NoneRefersToOurs schema
      → AllByRecursion (HasNoReferenceTo (device_table_name version)) schema.tables
  spares_devices version = all_weaker _ _ (λ t ours. ours.devices version) schema.tables

  pub meta_lone : {version : Version} (t : HasTables version schema) → IsLone schema meta_name (meta_table t.meta)
  meta_lone t = record {
    listed = has_got schema.tables t.meta_at (meta_table t.meta) t.meta_is_table.there;
    named = same_itself meta_name;
    keeps = all_weaker _ _ (λ t both. both.0) schema.tables t.alone;
    unreferenced = spares_meta t.unreferenced;
    unindexed = all_weaker _ _ (λ index both. both.0) schema.indexes t.unindexed;
  }

  pub devices_lone : {version : Version} (t : HasTables version schema)
      → IsLone schema (device_table_name version) (device_table version t.devices)
  devices_lone {version} t = record {
    listed = has_got schema.tables t.devices_at (device_table version t.devices) t.devices_are_table.there;
    named = same_itself (device_table_name version);
    keeps = all_weaker _ _ (λ t both. both.1) schema.tables t.alone;
    unreferenced = spares_devices version t.unreferenced;
    unindexed = all_weaker _ _ (λ index both. both.1) schema.indexes t.unindexed;
  }

both_versions : (P : Version → Type 0) → P First → P Second → (version : Version) → P version
both_versions P first second version = grind (arith, common_steps)

-- the two tables have different names
pub other_name : (version : Version) → same_name meta_name (device_table_name version) ≡ false
unfolding same_name
other_name = both_versions _ refl refl

-- a version table and a device table that no other object affects are the tables of a registry
abbrev pub tables-from_lone : (version : Version) (db : Database) → IsDatabase db → {meta devices : ℕ}
    → IsLone db.schema meta_name (meta_table meta)
    → IsLone db.schema (device_table_name version) (device_table version devices)
    → NoneRefersToOurs db.schema → is_used db.schema (device_table_name (other version)) ≡ false
    → MigrationAddsNoSequence version db.schema → HasTables version db.schema
tables-from_lone version db sound {meta} {devices} one two spared free counted =
    let at = lone_stands db sound one in
    let to = lone_stands db sound two in
    record {
      meta = meta;
      devices = devices;
      meta_at = at.0;
      devices_at = to.0;
      meta_is_table = at.1;
      devices_are_table = to.1;
      apart = λ e. both_ways _ (other_name version) (all_has _ _ _ two.keeps one.listed e);
      unreferenced = spared;
      alone = all_both _ _ _ (λ x p q. (p, q)) db.schema.tables one.keeps two.keeps;
      unindexed = all_both _ _ _ (λ x p q. (p, q)) db.schema.indexes one.unindexed two.unindexed;
      other_version_unused = free;
      sequence_allowed = counted;
    }

-- ---- references and indexes

unreferenced : (schema : Schema) → (has_foreign_key_to_ours schema ≡ false) ↔ NoneRefersToOurs schema
unreferenced schema = (
  λ none.
      all_from HasNoReferenceToOurs schema.tables (λ t has. record {
        meta = all_has _ schema.tables t ((spares meta_name).0 (search (rules, none))) has;
        devices = both_versions _ (all_has _ schema.tables t ((spares _).0 (search (rules, none))) has)
            (all_has _ schema.tables t ((spares _).0 (search (rules, none))) has);
      }),
  λ all.
      or_from _ _ (or_from _ _ ((spares _).1 (spares_meta schema all)) ((spares _).1 (spares_devices schema First all)))
      ((spares _).1 (spares_devices schema Second all)),
)
  where
    spares : (name : List ℕ)
        → (is_referenced schema name ≡ false) ↔ AllByRecursion (HasNoReferenceTo name) schema.tables
    spares name = (
      λ none. all_weaker _ _ (λ t. none_from_any _ t.references) schema.tables (none_from_any _ schema.tables none),
      λ all. any_from_none _ schema.tables (all_weaker _ _ (λ t. any_from_none _ t.references) schema.tables all),
    )

unindexed : (schema : Schema) (tree : ℕ)
    → (is_indexed schema tree ≡ false) ↔ AllByRecursion (λ index. index.table ≢ tree) schema.indexes
unindexed schema tree = (
  λ none. all_weaker _ _ (λ index. eqb-false _ _) schema.indexes (none_from_any _ schema.indexes none),
  λ all. any_from_none _ schema.indexes (all_weaker _ _ (λ index. ne_eqb _ _) schema.indexes all),
)

-- ---- names

module _ (schema : Schema) (name : List ℕ) where
  -- without a tree, no table has the name; otherwise the table with the name is in this tree
  abbrev IsTreeOf : Option ℕ → Type 0
  IsTreeOf None = table_named schema name ≡ None
  IsTreeOf (Some tree) = IsNamed schema name tree

  is_tree : IsTreeOf (tree_of_table schema name)
  is_tree = grind (arith, common_steps, found_at, none_or_some)

-- ---- `sqlite_sequence`

-- the definition of `sqlite` is the same as ours
lacks_sequence-same : (schema : Schema) → lacks_sequence schema ≡ lacks_needed_sequence_table schema
lacks_sequence-same schema =
    elim (tree_of_table schema (codes "sqlite_sequence")) as (λ o. IsTreeOf schema (codes "sqlite_sequence") o
    → lacks_sequence schema ≡ lacks_needed_sequence_table schema) [
      | None ↦ λ none. rw none refl
      | Some tree ↦ λ named. rw (named.named, named.there) refl
    ] (is_tree schema (codes "sqlite_sequence"))

sequence_allowed : (version : Version) (schema : Schema)
    → Decides (migration_adds_no_sequence version schema) (MigrationAddsNoSequence version schema)
sequence_allowed version schema = grind (arith, common_steps, lacks_sequence-same, not_from_false)

-- ---- one table in a tree

-- all elements of a list of length 1 are equal
sole_elements-equal : {X : Type 0} (xs : List X) (a b : X) → length xs ≡ 1 → Has xs a → Has xs b → a ≡ b
sole_elements-equal (x ∷ []) a b one has too = grind (arith, has, too)
sole_elements-equal _ a b one has too = absurd (omega arith)

-- a list of tables with different names, each of which is this table, has length 1
alone : (tables : List Table) → IsAscending (λ a b. same_name a.name b.name ≡ false) tables → (t : Table)
    → Has tables t → ((u : Table) → Has tables u → u ≡ t) → length tables ≡ 1
alone [] apart t has same = absurd has
alone (u ∷ []) apart t has same = refl
alone (u ∷ v ∷ tables) apart t has same =
    absurd (both_ways _ (rw (same u (inl refl), same v (inr (inl refl))) at apart.0.0) (same_itself t.name))

-- if a tree has one table, each table in it has its name
lone : {schema : Schema} {name : List ℕ} {tree : ℕ} → IsNamed schema name tree → has_one_table schema tree ≡ true
    → AllByRecursion (TreeHasName name tree) schema.tables
lone {schema} {name} {tree} n one = all_from (TreeHasName name tree) schema.tables (λ t has is.
    let in_tree = λ (u : Table). u.tree == tree in
    let same = sole_elements-equal (filter in_tree schema.tables) n.table t
    (length-filter in_tree schema.tables ∙ (Decides-eqb _ 1).0 one)
    (has_kept in_tree _ n.table (has_got schema.tables n.at n.table n.there) ((Decides-eqb _ tree).1 n.is))
    (has_kept in_tree _ t has ((Decides-eqb _ tree).1 is)) in
    subst (λ u. same_name u.name name ≡ true) same (has_name schema name n.at n.table n.named n.there))

-- in a sound database, the tree of a table that no other object affects has one table
lone-has_one_table : (db : Database) → IsDatabase db → {name : List ℕ} {table : Table} → IsLone db.schema name table
    → has_one_table db.schema table.tree ≡ true
lone-has_one_table db sound {name} {table} lone =
    let tables = db.schema.tables in
    let in_tree = λ (t : Table). t.tree == table.tree in
    let kept = has_kept in_tree tables table lone.listed ((Decides-eqb table.tree _).1 refl) in
    (Decides-eqb _ 1).1 (sym (length-filter in_tree tables) ∙ alone (filter in_tree tables)
    (ascending-filter _ in_tree tables sound.lists.listed.named) table kept (λ t has.
    let was = has_filtered in_tree tables t has in
    one_table db sound table lone.listed name lone.named t was.0
    (all_has _ tables t lone.keeps was.0 ((Decides-eqb t.tree _).0 was.1))))

-- ---- the conditions for the creation of the tables

pub admits : (schema : Schema) → Decides (admits_tables schema) (AdmitsTables schema)
admits schema = (
  λ ok.
      record {
        meta_name_unused = search (rules, ok);
        device_names_unused = both_versions _ (search (rules, ok)) (search (rules, ok));
        unreferenced = (unreferenced schema).0 (search (rules, ok));
        sequence_allowed = lacks_sequence-same schema ∙ search (rules, ok);
      },
  λ free. rw (
    free.meta_name_unused,
    free.device_names_unused First,
    free.device_names_unused Second,
    (unreferenced schema).1 free.unreferenced,
    ← lacks_sequence-same schema,
    free.sequence_allowed,
  ) refl,
)

-- ---- the status of the tables, from the trees of the three names

status-from_trees : (version : Version) (schema : Schema) (meta devices : ℕ)
    → tree_of_table schema meta_name ≡ Some meta
    → tree_of_table schema (device_table_name version) ≡ Some devices
    → tree_of_table schema (device_table_name (other version)) ≡ None
    → are_unaffected version schema meta devices ≡ true → tables_status schema ≡ Present version
status-from_trees version schema m d meta devices none all = grind (arith, common_steps)

module _ (schema : Schema) where
  -- what a status implies
  abbrev pub Implies : TablesStatus → Type 0
  Implies Absent = IsTrue (admits_tables schema)
  -- the tables of this version are in two trees, and other objects do not affect them
  Implies (Present version) = (meta : ℕ) × (devices : ℕ) × IsNamed schema meta_name meta
      × IsNamed schema (device_table_name version) devices
      × (table_named schema (device_table_name (other version)) ≡ None)
      × (are_unaffected version schema meta devices ≡ true)
  Implies Unusable = Unit {0}

  implies : (meta first second : Option ℕ) → IsTreeOf schema meta_name meta
      → IsTreeOf schema (device_table_name First) first → IsTreeOf schema (device_table_name Second) second
      → Implies (tables_in_trees schema meta first second)
  implies None None None m f s = grind (arith, common_steps)
  implies (Some meta) (Some devices) None m f s = grind (arith, common_steps)
  implies (Some meta) None (Some devices) m f s = grind (arith, common_steps)
  implies meta first second m f s = tt

  pub status_implies : {status : TablesStatus} → tables_status schema ≡ status → Implies status
  status_implies is = subst Implies is (implies _ _ _ (is_tree schema _) (is_tree schema _) (is_tree schema _))

  pub is_absent : AdmitsTables schema → tables_status schema ≡ Absent
  is_absent free =
      let meta = (unused schema meta_name free.meta_name_unused).0 in
      let devices = λ (version : Version). (unused schema _ (free.device_names_unused version)).0 in
      let admitted = (admits schema).1 free in
      rw (meta, devices First, devices Second, rw (meta, devices First, devices Second) at admitted) refl

module _ (db : Database) (sound : IsDatabase db) where
  -- the status of the tables of a registry is `Present`
  pub is_present : {version : Version} → HasTables version db.schema → tables_status db.schema ≡ Present version
  is_present {version} t = status-from_trees version db.schema t.meta t.devices
      (rw (t.meta_is_table.named, t.meta_is_table.there) refl)
      (rw (t.devices_are_table.named, t.devices_are_table.there) refl)
      (rw (unused db.schema _ t.other_version_unused).0 refl)
      (rw (
        (unreferenced db.schema).1 t.unreferenced,
        (unindexed db.schema t.meta).1 (meta_lone db.schema t).unindexed,
        (unindexed db.schema t.devices).1 (devices_lone db.schema t).unindexed,
        lone-has_one_table db sound (meta_lone db.schema t),
        lone-has_one_table db sound (devices_lone db.schema t),
        rw (unused db.schema _ t.other_version_unused).0 at t.other_version_unused,
        (sequence_allowed version db.schema).1 t.sequence_allowed,
      ) refl)

  -- ---- the list of objects

  -- a table that is listed with a text, and is alone in its tree, is the table that the text defines
  listed_lone : {name text : List ℕ} {made : Table} {tree : ℕ} → IsNamed db.schema name tree
      → HasCatalogText db.trees name text → table_defined_by text ≡ Ok made → has_one_table db.schema tree ≡ true
      → not (is_indexed db.schema tree) ≡ true → AllByRecursion (HasNoReferenceTo name) db.schema.tables
      → IsLone db.schema name (record made { tree = tree })
  listed_lone {name} {text} {made} {tree} n listed defines one free unreferenced =
      let there = n.there ∙ ap Some (defined db sound name tree n text made listed defines).0 in
      record {
        listed = has_got db.schema.tables n.at _ there;
        named = has_name db.schema name n.at _ n.named there;
        keeps = lone n one;
        unreferenced = unreferenced;
        unindexed = (unindexed db.schema tree).0 (not-true _ free);
      }

  -- two listed tables with the status `Present` are the tables of a registry
  pub tables_listed : (version : Version) → tables_status db.schema ≡ Present version
      → AreTablesListed version db.trees → HasTables version db.schema
  tables_listed version is listed =
      let (_, _, meta, devices, none, unaffected) = status_implies db.schema is in
      let spared = (unreferenced db.schema).0 (grind (arith, unaffected)) in
      let one = listed_lone meta listed.0 meta_text.table_is (grind (arith, unaffected)) (grind (arith, unaffected))
      (spares_meta db.schema spared) in
      let two = listed_lone devices listed.1 (device_is version) (grind (arith, unaffected))
      (grind (arith, unaffected)) (spares_devices db.schema version spared) in
      tables-from_lone version db sound one two spared (rw none (grind (arith, unaffected)))
      ((sequence_allowed version db.schema).0 (grind (arith, unaffected)))

module _ (version : Version) (s : State) where
  -- a sound database that has the trees of a registry is a registry
  pub IsRegistry-from_trees : IsSettledOpen s → IsRegistryIn version s.now.trees → IsRegistry version s.now
  IsRegistry-from_trees rest own = subst (IsRegistry version) (one_database own.same own.sound rest.sound) own.registry

  -- the test of the listed rows decides whether the tables are listed
  pub listed_rows-decide : (new : State) (rows : List Row) → IsDatabase s.now → Shown list_objects_sql [] s new rows
      → Decides (list_our_tables version rows) (AreTablesListed version s.now.trees)
  listed_rows-decide new rows sound shows = grind (arith, Decides-and, reported, shows_line)

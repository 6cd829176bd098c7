-- The transactions that make a registry of version 2: one creates the two tables, the other migrates version 1.
use Rattle.std.proofs.lemmas.Grind.{common_steps}
use Rattle.keyed_table.proofs.Common.{◌≡◌, inl, ℕ, List, [], Result, OnOk, IfErr, OnErr, true, refl, sym, subst, ◌∙◌}
use Rattle.keyed_table.proofs.Common.{arith, ◌≤◌, ◌∷◌, false, length, IsTrue, ap, both_ways, length_permutation}
use Rattle.keyed_table.proofs.Common.{on_ok_weaker, empty, AllByRecursion, runs_as, Database, IsDatabase, Held, state}
use Rattle.keyed_table.proofs.Common.{Row, State, Table, HasCleanDisk, Survives, mode_of, FailsToCommit, Error, Null}
use Rattle.keyed_table.proofs.Common.{next_tree, is_used, all_has, cast_row, Has, all-permutation, Ghosts, program_of}
use Rattle.keyed_table.proofs.Common.{HasRunStatements}
use Rattle.device_registry.proofs.Common.{Devices, max_devices, IsReadyWith, KeepsOtherTables, admits_tables}
use Rattle.device_registry.proofs.Common.{AreTablesListed, IsVersion2RegistryOf, HoldsVersion2, HasNoReferenceToOurs}
use Rattle.device_registry.proofs.Common.{NoneRefersToOurs, IsRegistry, IsRegistryOfVersion, create_meta_sql}
use Rattle.device_registry.proofs.Common.{create_device_sql, write_version_sql, device_table_name, copy_sql, drop_sql}
use Rattle.device_registry.proofs.Common.{rewrite_version_sql, meta_table, device_table, IsDeviceRow, RowidsDiffer}
use Rattle.device_registry.proofs.Common.{devices_in, upgraded_rows, Version, Second, First, IsMidTransaction}
use Rattle.sqlite.specs.Source.TheVariants.{Query}
use Rattle.sqlite_schema.specs.Names.{same_name}
use Rattle.keyed_table.proofs.Columns.{casts}
use Rattle.keyed_table.proofs.TablesKept.{lone_stands, HoldsRows, executed_creates, created_holds, created_keeps}
use Rattle.keyed_table.proofs.TablesKept.{created_all, created_unused, created_sequence, created_apart, created_is_kept}
use Rattle.keyed_table.proofs.TablesKept.{written_holds, written_keeps, executed_drops, dropped_keeps, dropped_all}
use Rattle.keyed_table.proofs.TablesKept.{dropped_unused, dropped_is_kept}
use Rattle.keyed_table.proofs.RowsAsMap.{differ_from, keyed_turned, same_map_of}
use Rattle.keyed_table.proofs.Statements.{IsSpared, Commits, shows_committed, since, leaves, uncommitted_remains}
use Rattle.keyed_table.proofs.KeyedMap.{inserts, lone_alone}
use Rattle.device_registry.proofs.DeviceRows.{data_in, keyed}
use Rattle.device_registry.proofs.DevicesHeld.{registry_devices-unique}
use Rattle.device_registry.proofs.StatementMeanings.{copy_means, drop_means, meta_text, device_text, version_row}
use Rattle.device_registry.proofs.StatementMeanings.{insert_version_means, rewrite_means}
use Rattle.device_registry.proofs.StatementTexts.{copy_query}
use Rattle.device_registry.proofs.TablesRecognized.{admits, other_name, spares_meta, spares_devices, tables-from_lone}
use Rattle.device_registry.proofs.TablesRecognized.{clean_before, devices_lone, meta_lone}
use Rattle.device_registry.proofs.VersionRow.{insert-writes_version, rewrite-writes_version}
use Rattle.device_registry.specs.Opening.{KeepsDatabaseIfStillOpen}
use Rattle.device_registry.specs.private.Transaction.{IsUncommitted, IsMidTransactionWithTables}
use Rattle.keyed_table.proofs.KeyedMap as writes

-- ---- a database with the two tables, the version row and the rows of devices is a registry of version 2

is_registry_of : {db : Database} → IsDatabase db → {meta devices : ℕ} {rows : List Row}
    → HoldsRows (meta_table meta) (version_row ∷ []) db → HoldsRows (device_table Second devices) rows db
    → NoneRefersToOurs db.schema → is_used db.schema (device_table_name First) ≡ false
    → AllByRecursion IsDeviceRow rows → RowidsDiffer rows → length rows ≤ max_devices
    → AreTablesListed Second db.trees → IsVersion2RegistryOf db (devices_in rows)
is_registry_of {db} sound version_table device_table spared free all differ few listed = record {
  registry = record {
    tables = tables-from_lone Second db sound version_table.lone device_table.lone spared free tt;
    valid_rows = record {
      row = version_row;
      one_version_row = version_table.rows_are;
      version_row_valid = record { key = refl; number = refl };
      rows = rw device_table.rows_are all;
      ids_differ = rw device_table.rows_are differ;
      at_most_max_devices = rw device_table.rows_are few;
    };
    tables_listed = listed;
  };
  is = ap devices_in device_table.rows_are;
}

-- after the texts, a database that lists the tables is a registry of the devices that satisfy `Are`
pub record IsMade (Are : Devices → Type 0) (old now : Database) : Type 0 where
  pub holds : AreTablesListed Second now.trees → (devices : Devices) → Are devices → IsVersion2RegistryOf now devices
  pub sound : IsDatabase now
  pub others : KeepsOtherTables old now

-- a created table of ours refers to no table
spares_ours : {table : Table} → table.references ≡ [] → HasNoReferenceToOurs table
spares_ours none = record { meta = rw none tt; devices = λ version. rw none tt }

-- ---- the tables are created

-- the three statements make a registry without devices
pub creation_makes : {S : Type 0} (g : Ghosts S) (old : Held S)
    → IsTrue (admits_tables (state g old).now.schema) × IsDatabase (state g old).now → (end : Held S)
    → HasRunStatements g (create_meta_sql ∷ create_device_sql Second ∷ write_version_sql ∷ [])
    (record old { in_transaction = true }) end
    → IsMade (λ devices. devices ≡ empty) (state g old).now (state g end).now
unfolding same_name
creation_makes g old (admitted, sound) end (in_b, i, first, (in_c, j, second, (in_d, k, third, is))) =
    let a = state g (record old { in_transaction = true }) in
    let b = state g in_b in
    let c = state g in_c in
    let d = state g in_d in
    let meta = next_tree a.now.schema in
    let clear = (admits a.now.schema).0 admitted in
    let one = executed_creates meta_text refl a b i clear.meta_name_unused clear.sequence_allowed first.0 in
    let unused = λ (version : Version).
    created_unused one (device_table_name version) (other_name version) (clear.device_names_unused version) in
    let spared = created_all one HasNoReferenceToOurs clear.unreferenced (spares_ours refl) in
    let two = executed_creates device_text refl b c j (unused Second) (created_sequence one clear.sequence_allowed)
    second.0 in
    let meta_in_b = created_holds one sound (spares_meta a.now.schema clear.unreferenced) in
    let meta_in_c = created_keeps two meta_in_b in
    let devices_in_c = created_holds two one.sound (spares_devices b.now.schema Second spared) in
    let (at, stands) = lone_stands c.now two.sound meta_in_c.lone in
    let means = insert_version_means c.now.schema at meta stands in
    let three = runs_as write_version_sql [] c d c.now.schema refl _ means.is means.is_plain k third.0 in
    let written = insert-writes_version c.now.schema at meta stands.there (lone_alone meta_in_c.lone) c.step_limit
    (mode_of c) c.now.trees three.tally d.now meta_in_c.rows_are three.changed in
    let same = written.schema_is in
    rw (← is) (record {
      holds = λ listed devices none. subst (IsVersion2RegistryOf d.now) (sym none)
          (is_registry_of three.sound (written_holds d.now same meta_in_c _ written.row_is)
          (written_keeps d.now same devices_in_c written.others
          (λ e. created_apart two _ meta_in_b.lone.listed (sym e)))
          (rw same (created_all two HasNoReferenceToOurs spared (spares_ours refl)))
          (rw same (created_unused two (device_table_name First) refl (unused First)))
          tt tt (omega arith) listed);
      sound = three.sound;
      others = λ table has _ _.
          let in_b = created_is_kept one table has in
          let in_c = created_is_kept two table in_b.listed in (
            rw same in_c.listed,
            written.others.tables table in_c.listed (created_apart one table has) ∙ in_c.same ∙ in_b.same,
          );
    })

-- ---- version 1 is migrated

-- rows of devices with the empty label are stored as they are given
all_stored : (n : ℕ) (rows : List Row) → AllByRecursion IsDeviceRow (upgraded_rows First rows)
    → AllByRecursion (λ row. cast_row (device_table Second n) row ≡ row) (upgraded_rows First rows)
all_stored n [] all = tt
all_stored n (row ∷ rows) all = (rw (all.0.id_is, all.0.eep_is, all.0.maker_is) (simp casts), all_stored n rows all.1)

-- the four statements make a registry of version 2 with the same devices
pub migration_makes : {S : Type 0} (g : Ghosts S) (old : Held S)
    → IsRegistry First (state g old).now × IsDatabase (state g old).now → (end : Held S)
    → HasRunStatements g (create_device_sql Second ∷ copy_sql ∷ drop_sql ∷ rewrite_version_sql ∷ [])
    (record old { in_transaction = true }) end
    → IsMade (IsRegistryOfVersion First (state g old).now) (state g old).now (state g end).now
migration_makes g old (found, sound) end (in_b, i, first, (in_c, j, second, (in_d, k, third, (in_e, l, fourth, is)))) =
    let a = state g (record old { in_transaction = true }) in
    let b = state g in_b in
    let c = state g in_c in
    let d = state g in_d in
    let e = state g in_e in
    let t = found.tables in
    let valid = found.valid_rows in
    let new = next_tree a.now.schema in
    let meta_in_a = meta_lone a.now.schema t in
    let devices_in_a = devices_lone a.now.schema t in
    -- the new table is created
    let created = executed_creates device_text refl a b i t.other_version_unused t.sequence_allowed first.0 in
    let old_in_b = created_keeps created (record { lone = devices_in_a; rows_are = refl }) in
    let new_in_b = created_holds created sound (spares_devices a.now.schema Second t.unreferenced) in
    let meta_in_b = created_keeps created (record { lone = meta_in_a; rows_are = valid.one_version_row }) in
    let devices_apart = created_apart created (device_table First t.devices) devices_in_a.listed in
    let meta_is_apart = created_apart created (meta_table t.meta) meta_in_a.listed in
    -- the devices are copied
    let (from, from_stands) = lone_stands b.now created.sound old_in_b.lone in
    let (to, to_stands) = lone_stands b.now created.sound new_in_b.lone in
    let copies = copy_means b.now.schema from t.devices from_stands to new to_stands in
    let two = runs_as copy_sql [] b c b.now.schema refl _ copies.is copies.is_plain j second.0 in
    let same = ap (upgraded_rows First) old_in_b.rows_are in
    let all : AllByRecursion IsDeviceRow (upgraded_rows First (b.now.trees t.devices)) = rw same valid.rows in
    let (given, source, copy) = inserts b.now.schema to (device_table Second new) to_stands.there
    (lone_alone new_in_b.lone) b.step_limit (mode_of b) [] b.now.trees two.tally c.now
    (Query (program_of (copy_query t.devices))) refl two.changed in
    let copied = rw same at (writes.copies b.now.schema (device_table Second new) t.devices b.now.trees given c.now
    (source.answer Null) copy new_in_b.rows_are (keyed _ all (rw same valid.ids_differ))
    (all_stored new (b.now.trees t.devices) all)) in
    let old_in_c = written_keeps c.now copy.schema_is old_in_b copy.others devices_apart in
    let new_in_c = written_holds c.now copy.schema_is new_in_b (c.now.trees new) refl in
    -- the old table is dropped
    let dropped = executed_drops refl c d k two.sound old_in_c
    (λ at stands. drop_means c.now.schema at t.devices stands) third.0 in
    let meta_in_d = dropped_keeps dropped (written_keeps c.now copy.schema_is meta_in_b copy.others meta_is_apart)
    t.apart in
    let new_in_d = dropped_keeps dropped new_in_c (λ e. devices_apart (sym e)) in
    let spared = dropped_all dropped HasNoReferenceToOurs (rw copy.schema_is (created_all created HasNoReferenceToOurs
    t.unreferenced (spares_ours refl))) in
    -- the version is written
    let (at, stands) = lone_stands d.now dropped.sound meta_in_d.lone in
    let means = rewrite_means d.now.schema at t.meta stands in
    let four = runs_as rewrite_version_sql [] d e d.now.schema refl _ means.is means.is_plain l fourth.0 in
    let (written, _) = rewrite-writes_version d.now.schema at t.meta stands.there (lone_alone meta_in_d.lone)
    d.step_limit (mode_of d) d.now.trees four.tally e.now valid.row meta_in_d.rows_are valid.version_row_valid.key
    four.changed in
    let schema = written.schema_is in
    rw (← is) (record {
      holds = λ listed devices were.
          -- the rows may be in another order
          let rows = upgraded_rows First (a.now.trees t.devices) in
          let here = keyed rows valid.rows valid.ids_differ in
          let few = rw (← length_permutation rows _ copied) at valid.at_most_max_devices in
          subst (IsVersion2RegistryOf e.now) (sym (same_map_of data_in rows _ copied here)
          ∙ registry_devices-unique (record { registry = found; is = refl }) were)
          (is_registry_of four.sound (written_holds e.now schema meta_in_d _ written.row_is)
          (written_keeps e.now schema new_in_d written.others (λ same. meta_is_apart (sym same))) (rw schema spared)
          (rw schema (dropped_unused dropped two.sound old_in_c)) (all-permutation _ rows _ copied valid.rows)
          (differ_from _ (keyed_turned rows _ copied here).apart) few listed);
      sound = four.sound;
      others = λ table has not_meta not_devices.
          let alone = all_has _ a.now.schema.tables table t.alone has in
          let in_b = created_is_kept created table has in
          let in_c : Has c.now.schema.tables table = rw copy.schema_is in_b.listed in
          let in_d = dropped_is_kept dropped table in_c (λ same. both_ways _ (not_devices First) (alone.1 same)) in (
            rw schema in_d.listed,
            written.others.tables table in_d.listed (λ same. both_ways _ not_meta (alone.0 same)) ∙ in_d.same
                ∙ copy.others.tables table in_b.listed (created_apart created table has) ∙ in_b.same,
          );
    })

-- ---- the transaction

-- a call that changes nothing, or returns to what was committed, commits nothing
pub still_uncommitted : {S : Type 0} (g : Ghosts S) {texts : List (List ℕ)} {a b : Held S} (c : Held S)
    → IsMidTransaction g texts a b → Survives (state g b) (state g c) (λ _. ⊥)
    → (HasCleanDisk (state g c) → IsSpared (state g b) (state g c)) → IsUncommitted (state g a) (state g c)
still_uncommitted g {a = a} {b} c made crash spared = grind (arith, common_steps)

-- the transaction commits a registry of the devices that satisfy `Are`, or fails and keeps the database
pub record Ends {V : Type 0} (Are : Devices → Type 0) (old new : State) (r : Result V Error) : Type 0 where
  pub made : HasCleanDisk new → OnOk r ((devices : Devices) → Are devices → IsReadyWith new devices)
  pub others : HasCleanDisk new → OnOk r (KeepsOtherTables old.now new.now)
  pub crash : Survives old new (λ trees. (devices : Devices) → Are devices → HoldsVersion2 trees devices)
  pub remains : HasCleanDisk new → OnErr r (KeepsDatabaseIfStillOpen old new)

-- the transaction runs these texts
module _ {S : Type 0} (g : Ghosts S) {texts : List (List ℕ)} {Are : Devices → Type 0} (old : Held S) {start : Held S}
    (is : start ≡ record old { in_transaction = true })
    (makes : HasCleanDisk (state g old) → (end : Held S)
    → HasRunStatements g texts (record old { in_transaction = true }) end
    → IsMade Are (state g old).now (state g end).now) where
  pub ran : (mid : Held S) → HasCleanDisk (state g mid) → IsMidTransaction g texts start mid
      → IsMade Are (state g old).now (state g mid).now
  ran mid clean at = grind (arith, common_steps)

  pub ends : {V : Type 0} {last : Held S} (new : State) (r : Result V Error)
      → IsMidTransactionWithTables g Second texts start last
      → Survives (state g last) new (λ trees. trees ≡ (state g last).now.trees)
      → (HasCleanDisk new → OnOk r (Commits (state g last) new))
      → (HasCleanDisk new → IfErr r (FailsToCommit (state g last) new)) → Ends Are (state g old) new r
  ends {last = last} new r at commits ok err =
      let began = since g old start (state g last) is
      (still_uncommitted g last at.made at.crash (λ clean. inl (at.same clean))) in
      let shows = λ (clean : HasCleanDisk (state g last)). subst (IsMade Are (state g old).now)
      (sym (at.same clean).0.now_is) (ran at.mid (clean_before at.crash clean) at.made) in
      let held = λ (clean : HasCleanDisk (state g last)). (shows clean).holds (at.tables_listed clean) in
      record {
        made = λ clean. on_ok_weaker r (λ done devices are.
            let early = clean_before commits clean in
            shows_committed (state g last) new devices (held early devices are) (shows early).sound done) (ok clean);
        others = λ clean. on_ok_weaker r (λ done. subst (KeepsOtherTables (state g old).now) (sym done.1.now_is)
            (shows (clean_before commits clean)).others) (ok clean);
        crash = leaves (state g old) (state g last) new began commits
            (λ trees. (devices : Devices) → Are devices → HoldsVersion2 trees devices) (λ clean devices are. record {
              db = (state g last).now;
              same = refl;
              sound = (shows clean).sound;
              holds = held clean devices are;
            });
        remains = uncommitted_remains (state g old) (state g last) new began commits r
            (λ clean. (at.same clean).0.mode ∙ at.made.inside (clean_before at.crash clean)) err;
      }

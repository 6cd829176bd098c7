-- The version row: the effect of the texts that insert and rewrite it.
use Rattle.keyed_table.proofs.Common.{◌≡◌, true, false, inl, inr, ℕ, pos, drop, List, [], ◌∷◌, Option, Some, None, Ok}
use Rattle.keyed_table.proofs.Common.{Err, Result, OnOk, length, refl, sym, ap, subst, ◌∙◌, slice_get, unwrap_or}
use Rattle.keyed_table.proofs.Common.{and_parts, Row, column, Schema, Insert, Update, Values, Mode}
use Rattle.keyed_table.proofs.Common.{Error, Value, Null, Int, Database, IsDatabase, Tally, Does, State, Survives}
use Rattle.keyed_table.proofs.Common.{Executes, mode_of, survives_weaker, ids_of, edit_of, edited, Chosen, Given}
use Rattle.keyed_table.proofs.Common.{all_has, Command, Trees, value_cmp-Int, program_of, CompilesTo}
use Rattle.device_registry.proofs.Common.{Devices, Second, rewrite_version_sql, meta_table, device_table, devices_in}
use Rattle.device_registry.proofs.Common.{IsVersion2RegistryOf, HoldsVersion2, IsReadyWith, IsReady, KeepsRows}
use Rattle.std.proofs.lemmas.Bool.Decides.{eqb_tells}
use Rattle.sqlite.specs.State.{CommitsBy}
use Rattle.sqlite_schema.specs.Rules.{are_typed}
use Rattle.sqlite_schema.specs.declared.schema.Constraint.TheVariants.{Datatype}
use Rattle.sqlite_sql.specs.Ops.{is_null}
use Rattle.keyed_table.proofs.RowsAsMap.{shows_one}
use Rattle.keyed_table.proofs.Columns.{casts}
use Rattle.keyed_table.proofs.KeyedMap.{StandsAlone, lone_alone, SparesOthers, Did, inserts, updates, objects_spared}
use Rattle.keyed_table.proofs.Statements.{CommitsWithRoom, wrote_as, left, turned}
use Rattle.device_registry.specs.Table.Rows.{IsVersionRow}
use Rattle.device_registry.proofs.StatementTexts.{rewrite_query}
use Rattle.device_registry.proofs.StatementMeanings.{rewrite_means, version_row, version_terms}
use Rattle.device_registry.proofs.TablesRecognized.{meta_lone, devices_lone}
use Rattle.device_registry.proofs.DevicesHeld.{registry-from_valid_rows}

-- ---- the row as the texts leave it

-- the version row is the only row of its table, and no other table changes
pub record IsVersionWritten (schema : Schema) (m : ℕ) (before : Trees) (after : Database) : Type 0 where
  pub schema_is : after.schema ≡ schema
  pub row_is : after.trees m ≡ version_row ∷ []
  pub others : SparesOthers schema m before after.trees

module _ (schema : Schema) (at m : ℕ) (there : slice_get schema.tables at ≡ Some (meta_table m))
    (alone : StandsAlone schema m) (limit : Option ℕ) (mode : Mode) (db : Trees) (tally : Tally) (after : Database)
  where
    -- the version row is inserted
    pub insert-writes_version : db m ≡ []
        → Did schema limit mode [] db at (Insert at (Values version_terms 3)) tally after
        → IsVersionWritten schema m db after
    insert-writes_version none did =
        let (rows, is, step) = inserts schema at (meta_table m) there alone limit mode [] db tally after
        (Values version_terms 3) refl did in record {
          schema_is = step.schema_is;
          row_is = step.rows ∙ ap (λ rows. edited db (edit_of db (meta_table m) [] Chosen 0 rows)) is.1
              ∙ rw none (simp casts);
          others = step.others;
        }

    -- the only row is replaced
    pub rewrite-writes_version : (row : Row) → db m ≡ row ∷ [] → column row 0 ≡ Int (pos 1)
        → Did schema limit mode [] db at (Update at (program_of (rewrite_query m))) tally after
        → IsVersionWritten schema m db after × (tally.rows ≡ Some 1)
    rewrite-writes_version row one key did =
        let (rows, answer, step, counted) =
        updates schema at (meta_table m) there alone limit mode [] db tally after (rewrite_query m) did in
        let are = shows_one db row one answer in (
          record {
            schema_is = step.schema_is;
            row_is = step.rows ∙ ap (λ rows. edited db (edit_of db (meta_table m) (ids_of rows) Given 1 rows)) are
                ∙ rw (key, one, key, value_cmp-Int (pos 1) (pos 1)) (simp casts);
            others = step.others;
          },
          counted ∙ ap (λ rows. Some (length (edit_of db (meta_table m) (ids_of rows) Given 1 rows).news)) are,
        )

-- ---- the rewrite of the version row of a registry

abbrev rewrite_command : (db : Database) (devices : Devices) → IsVersion2RegistryOf db devices → Command
rewrite_command db devices had =
    Update had.registry.tables.meta_at (program_of (rewrite_query had.registry.tables.meta))

rewrite-compiles : (db : Database) (devices : Devices) (had : IsVersion2RegistryOf db devices)
    → CompilesTo db.schema rewrite_version_sql (rewrite_command db devices had)
rewrite-compiles db devices had =
    let t = had.registry.tables in rewrite_means db.schema t.meta_at t.meta t.meta_is_table

rewrite-writes_row : (s : State) (after : Database) (tally : Tally) {devices : Devices}
    (had : IsVersion2RegistryOf s.now devices)
    → Did s.now.schema s.step_limit (mode_of s) [] s.now.trees had.registry.tables.meta_at
    (rewrite_command s.now devices had) tally after
    → IsVersionWritten s.now.schema had.registry.tables.meta s.now.trees after × (tally.rows ≡ Some 1)
rewrite-writes_row s after tally had =
    let t = had.registry.tables in
    let rows = had.registry.valid_rows in
    rewrite-writes_version s.now.schema t.meta_at t.meta t.meta_is_table.there (lone_alone (meta_lone s.now.schema t))
    s.step_limit (mode_of s) s.now.trees tally after rows.row rows.one_version_row rows.version_row_valid.key

-- after the rewrite, the database is a registry of the same devices
rewrite-keeps_registry : (then : Devices → Devices) (s : State) (after : Database) (text : List ℕ) (tally : Tally)
    (devices : Devices) (had : IsVersion2RegistryOf s.now devices) → IsDatabase s.now → then devices ≡ devices
    → Does s.step_limit (mode_of s) [] s.now text None (rewrite_command s.now devices had) (Ok (tally, after))
    → IsVersion2RegistryOf after (then devices)
rewrite-keeps_registry then s after text tally devices had sound same did =
    let (written, _) = rewrite-writes_row s after tally had did in
    let r = had.registry in
    let t = r.tables in
    let rows : after.trees t.devices ≡ s.now.trees t.devices = written.others.tables
    (device_table Second t.devices) (devices_lone s.now.schema t).listed (λ e. t.apart (sym e)) in
    subst (IsVersion2RegistryOf after) (sym same) (registry-from_valid_rows r written.schema_is
    (objects_spared s.now sound _ (meta_lone s.now.schema t).listed after.trees written.others) (record {
      row = version_row;
      one_version_row = written.row_is;
      version_row_valid = record { key = refl; number = refl };
      rows = rw rows r.valid_rows.rows;
      ids_differ = rw rows r.valid_rows.ids_differ;
      at_most_max_devices = rw rows r.valid_rows.at_most_max_devices;
    }) (ap devices_in rows ∙ had.is))

-- the rewrite commits every update that leaves the devices as they are
pub rewrite-commits : (then : Devices → Devices)
    → CommitsWithRoom IsVersion2RegistryOf rewrite_version_sql [] then (λ devices. then devices ≡ devices)
rewrite-commits then = turned rewrite_version_sql [] then (λ devices. then devices ≡ devices) rewrite_command
    (λ db devices had. tt) rewrite-compiles (rewrite-keeps_registry then)

pub rewrite-crash_keeps_devices : {old new : State} → Survives old new (CommitsBy rewrite_version_sql [] old)
    → Survives old new (λ trees. (devices : Devices) → IsReadyWith old devices → HoldsVersion2 trees devices)
rewrite-crash_keeps_devices {old} {new} = survives_weaker old new _ _ (λ clean trees commits devices shows. left
    rewrite_version_sql [] (λ devices. devices) (λ devices. devices ≡ devices) rewrite_command (λ db devices had. tt)
    rewrite-compiles (rewrite-keeps_registry (λ devices. devices)) old devices trees refl shows commits)

-- the rewrite counts exactly one row, and changes no other table
pub rewrite-counts_one : (old new : State) (count : ℕ) (ready : IsReady old)
    → Executes rewrite_version_sql [] old new (Ok count)
    → IsVersionWritten old.now.schema ready.shows.holds.registry.tables.meta old.now.trees new.now × (count ≡ 1)
rewrite-counts_one old new count ready runs =
    let had = ready.shows.holds in
    let wrote = wrote_as rewrite_version_sql [] (λ devices. devices) (λ devices. devices ≡ devices) rewrite_command
    (λ db devices had. tt) rewrite-compiles (rewrite-keeps_registry (λ devices. devices)) old new count ready.held had
    runs in
    let (written, one) = rewrite-writes_row old new.now wrote.tally had wrote.changed in
    (written, wrote.counted ∙ ap (λ rows. unwrap_or rows 0) one)

-- ---- the rewritten row is the old row

Null-from_is_null : (v : Value) → is_null v ≡ true → v ≡ Null
Null-from_is_null Null is = refl
Null-from_is_null _ is = absurd cc

version_row-unique : (m : ℕ) (row : Row) → IsVersionRow Second row
    → are_typed (meta_table m).key 0 (meta_table m).columns (drop 1 row) ≡ true → row ≡ version_row
version_row-unique m (key ∷ null ∷ number ∷ []) valid typed =
    let is_null = Null-from_is_null null (and_parts _ _ typed).0 in λ i. valid.key i ∷ is_null i ∷ valid.number i ∷ []
version_row-unique m (key ∷ null ∷ number ∷ value ∷ more) valid typed =
    absurd (let e : false ≡ true = (and_parts _ _ (and_parts _ _ typed).1).1 in cc)
version_row-unique m _ valid typed = absurd (let e : ◌≡◌ {A = Value} Null (Int (pos 2)) = valid.number in cc)

-- after the rewrite, each table has the rows that it had
pub rewrite-keeps_rows : (old new : State) (r : Result ℕ Error) → Executes rewrite_version_sql [] old new r
    → OnOk r (IsReady old → KeepsRows old new)
rewrite-keeps_rows old new (Err e) runs = tt
rewrite-keeps_rows old new (Ok count) runs = λ ready.
    let (written, _) = rewrite-counts_one old new count ready runs in
    let registry = ready.shows.holds.registry in
    let meta = registry.tables.meta in
    let valid = registry.valid_rows in
    let typed = rw valid.one_version_row at (all_has _ old.now.schema.tables (meta_table meta)
    (ready.shows.sound.obeys.rules Datatype) (meta_lone old.now.schema registry.tables).listed) in
    let same = version_row-unique meta valid.row valid.version_row_valid (and_parts _ _ typed.0).0 in
    record {
      schema = written.schema_is;
      rows = λ table has. elim (eqb_tells table.tree meta) [
        | inl tie ↦ rw tie.1 (written.row_is ∙ ap (λ row. row ∷ []) (sym same) ∙ sym valid.one_version_row)
        | inr apart ↦ written.others.tables table has apart.1
      ];
    }

-- The devices that a database holds. The statements on the device table show and change them; the proofs cite what the
-- database reports about the statements.
use Rattle.std.proofs.lemmas.Grind.{common_steps}
use Rattle.keyed_table.proofs.Common.{◌≡◌, ℕ, ◌≤◌, [], map, sym, ap, subst, ◌∙◌, arith, nat_le, inl, inr, pos, ◌∷◌}
use Rattle.keyed_table.proofs.Common.{false, true, Option, option_map, refl, IsPermutation, nat_tests, nat_cmp_total}
use Rattle.keyed_table.proofs.Common.{List, insert, remove, len, Database, IsDatabase, understood, Trees, catalog_tree}
use Rattle.keyed_table.proofs.Common.{HoldsMap, Int, Row, column, State, HasCleanDisk, Shown, IsPlain, map-map}
use Rattle.keyed_table.proofs.Common.{lookup_params, AllByRecursion, overlay, IsAnswer, eval_all}
use Rattle.device_registry.proofs.Common.{devices_by_ascending_id, IsVersion2RegistryOf, OperationMakesDevice, find_sql}
use Rattle.device_registry.proofs.Common.{IsRegistryOfVersion, count_others_sql, with_empty_label, HoldsInVersion}
use Rattle.device_registry.proofs.Common.{HasCatalogText, upgraded_rows, upsert_params, find_all_sql, DeviceUpdate}
use Rattle.device_registry.proofs.Common.{apply_update, HasValidRows, shown_device, RowidsDiffer, Version, is_full_for}
use Rattle.device_registry.proofs.Common.{max_devices, IsDeviceRow, IsReadyWith, meta_table, upsert_sql, delete_sql}
use Rattle.device_registry.proofs.Common.{DeviceData, IsRegistry, devices_in, natural_in, device_of, Second, Operation}
use Rattle.device_registry.proofs.Common.{entry_of, is_label, Devices, IsReady, device, Device, First}
use Rattle.std.proofs.Common.{min, get_or}
use Rattle.std.specs.FinMap.{len-insert, len-remove, gets}
use Rattle.device_registry.specs.Table.Rows.{IsDeviceOrNone}
use Rattle.device_registry.specs.Opening.{DevicesAreLimited}
use Rattle.device_registry.proofs.DeviceRows.{devices, data_in, keyed, codec, stored_keyed, IsShort}
use Rattle.device_registry.proofs.TablesRecognized.{devices_lone, meta_lone}
use Rattle.keyed_table.proofs.KeyedMap.{IsWritten, objects_spared}
use Rattle.keyed_table.proofs.RowsAsMap.{len_is, ranked, env_of, shows_all}
use Rattle.device_registry.proofs.StatementMeanings.{meant}
use Rattle.device_registry.proofs.StatementTexts.{device_terms, all_query, shown}
use Rattle.keyed_table.proofs.Statements.{CommitsWithRoom, AlwaysCommits}
use Rattle.keyed_table.proofs.ListedTables as listed
use Rattle.keyed_table.proofs.RowsAsMap as answers
use Rattle.keyed_table.proofs.KeyedMap as keyed_map

-- ---- a database determines its devices

pub registry_devices-unique : {version : Version} {db : Database} {a b : Devices} → IsRegistryOfVersion version db a
    → IsRegistryOfVersion version db b → a ≡ b
registry_devices-unique {version} {db} one other = grind (arith, common_steps)

-- the trees of a sound database determine its devices
pub trees_devices-unique : {version : Version} {trees : Trees} {a b : Devices} → HoldsInVersion version trees a
    → HoldsInVersion version trees b → a ≡ b
trees_devices-unique {version} =
    listed.held_once (IsRegistryOfVersion version) (λ db a b. registry_devices-unique) _ _ _

-- the devices are the map of the device table
abbrev pub map_held : (db : Database) (held : Devices) → IsVersion2RegistryOf db held → HoldsMap devices db held
map_held db held had =
    let t = had.registry.tables in
    let rows = had.registry.valid_rows in
    record {
      tree = t.devices;
      at = t.devices_at;
      stands = t.devices_are_table;
      lone = devices_lone db.schema t;
      rows = record { valid = rows.rows; differ = rows.ids_differ; is = had.is };
    }

-- ---- the schema and the list of objects are unchanged

-- if the list of objects is unchanged, a table is still listed
HasCatalogText-kept : {before after : Trees} {name text : List ℕ} → after catalog_tree ≡ before catalog_tree
    → HasCatalogText before name text → HasCatalogText after name text
HasCatalogText-kept same has = grind (arith, common_steps)

-- a database with the same schema, the same list of objects and valid rows is a registry
pub registry-from_valid_rows : {before after : Database} {held : Devices} (registry : IsRegistry Second before)
    → after.schema ≡ before.schema → after.trees catalog_tree ≡ before.trees catalog_tree
    → HasValidRows Second after.trees registry.tables.meta registry.tables.devices
    → devices_in (after.trees registry.tables.devices) ≡ held → IsVersion2RegistryOf after held
registry-from_valid_rows {before} {after} {held} registry schema objects rows is =
    let (meta, devices) = registry.tables_listed in
    let same : ◌≡◌ {A = Database} (record { schema = before.schema; trees = after.trees }) after =
    λ i. record { schema = sym schema i; trees = after.trees } in
    subst (λ db. IsVersion2RegistryOf db held) same (record {
      registry = record {
        tables = registry.tables;
        valid_rows = rows;
        tables_listed = (HasCatalogText-kept objects meta, HasCatalogText-kept objects devices);
      };
      is = is;
    })

-- ---- at most `max_devices` devices

pub few_devices : {db : Database} {devices : Devices} → IsVersion2RegistryOf db devices → len devices ≤ max_devices
few_devices had =
    let rows = had.registry.valid_rows in
    rw (ap len (sym had.is) ∙ len_is data_in _ (keyed _ rows.rows rows.ids_differ)) rows.at_most_max_devices

pub devices_are_limited : DevicesAreLimited
devices_are_limited trees devices holds = few_devices holds.holds

-- the registry is not full for a known sender
pub room_for_known : {s : State} (device : Device) (operation : Operation) → OperationMakesDevice s device operation
    → HasCleanDisk s → (devices : Devices) → IsReadyWith s devices → is_full_for devices device.id ≡ false
room_for_known device operation makes clean devices shows =
    grind (arith, nat_tests, gets, few_devices shows.holds, (makes clean devices (λ _ _. shows.holds)).0)

remove-not_more : (devices : Devices) (id : ℕ) → len (remove devices id) ≤ len devices
remove-not_more devices id = grind (arith, gets)

-- ---- a write of the device table

-- after a write of the device table, the database is a registry if it has at most `max_devices` devices
written-is_registry : {before after : Database} {held now : Devices} (had : IsVersion2RegistryOf before held)
    → IsDatabase before → IsWritten devices before after had.registry.tables.devices now → len now ≤ max_devices
    → IsVersion2RegistryOf after now
written-is_registry {before} {after} had sound written few =
    let registry = had.registry in
    let t = registry.tables in
    registry-from_valid_rows registry written.schema_is
    (objects_spared before sound _ (devices_lone before.schema t).listed after.trees written.others) (record {
      row = registry.valid_rows.row;
      one_version_row =
          written.others.tables (meta_table t.meta) (meta_lone before.schema t).listed t.apart
          ∙ registry.valid_rows.one_version_row;
      version_row_valid = registry.valid_rows.version_row_valid;
      rows = written.rows.valid;
      ids_differ = written.rows.differ;
      at_most_max_devices = rw (sym (len_is data_in _ (keyed _ written.rows.valid written.rows.differ))
          ∙ ap len written.rows.is) few;
    }) written.rows.is

-- ---- the rows of the list, in either version

shown_are : (version : Version) (rows : List Row)
    → map (λ row. eval_all (device_terms version) (env_of [] row)) rows ≡ map shown (upgraded_rows version rows)
shown_are First rows = sym (map-map shown with_empty_label rows)
shown_are Second rows = refl

module _ (version : Version) (d : ℕ) (db : Trees) (rows : List Row)
    (answer : IsAnswer (all_query version d) (overlay db []) [] rows) where
  -- the query shows all devices, in some order
  pub all_query-shows_devices : IsPermutation (map shown (upgraded_rows version (db d))) rows
  all_query-shows_devices = subst (λ all. IsPermutation all rows) (shown_are version (db d)) (shows_all db answer)

  -- the query shows all devices by ascending sender
  pub all_query-ascends : AllByRecursion IsDeviceRow (upgraded_rows version (db d))
      → RowidsDiffer (upgraded_rows version (db d)) → rows ≡ map shown (upgraded_rows version (ranked (db d)))
  all_query-ascends all differ =
      answers.lists data_in d db (stored_keyed version (db d) all differ) rows answer
      ∙ shown_are version (ranked (db d))

-- ---- the queries are plain on a ready registry

pub queries_are_plain : {s : State} → IsReady s → IsPlain (understood s.now.schema find_sql)
    × IsPlain (understood s.now.schema count_others_sql) × IsPlain (understood s.now.schema (find_all_sql Second))
queries_are_plain {s} ready =
    let t = ready.shows.holds.registry.tables in (
      (meant.find s.now.schema t.devices_at t.devices t.devices_are_table).is_plain,
      (meant.count s.now.schema t.devices_at t.devices t.devices_are_table).is_plain,
      (meant.all s.now.schema t.devices_at t.devices t.devices_are_table).is_plain,
    )

-- ---- what the queries show

module _ {old : State} (new : State) (rows : List Row) {held : Devices} (shows : IsReadyWith old held) where
  abbrev here : HoldsMap devices old.now held
  here = map_held old.now held shows.holds

  -- a look-up shows the row of the device, or no row
  pub find-shows_device : (id : ℕ) → Shown find_sql (lookup_params id) old new rows
      → IsDeviceOrNone (device_of held id) rows
  find-shows_device id answer =
      let IsShown : Option DeviceData → Type 0 = λ stored. IsDeviceOrNone (option_map (device id) stored) rows in
      elim (keyed_map.looks_up devices codec meant old new held here rows id answer) [
        | inl none ↦ subst IsShown (sym none.0) none.1
        | inr some ↦ subst IsShown (sym some.1) (_, some.2, ap (λ v. device (natural_in v) (data_in some.0)) some.3)
      ]

  pub list-shows_devices : Shown (find_all_sql Second) [] old new rows
      → map shown_device rows ≡ devices_by_ascending_id held
  list-shows_devices answer =
      let (all, are, entries) = keyed_map.lists devices codec meant old new held here rows answer in
      ap (map shown_device) are ∙ map-map shown_device shown all
      ∙ sym (map-map (λ entry. device entry.0 entry.1) entry_of all)
      ∙ ap (map (λ entry. device entry.0 entry.1)) (sym entries)

  -- the count of the other senders cannot saturate, so it says whether the registry is full
  pub count-decides_full : (id n : ℕ) (row : Row) (more : List Row)
      → Shown count_others_sql (lookup_params id) old new rows → rows ≡ row ∷ more → column row 0 ≡ Int (pos n)
      → nat_le max_devices n ≡ is_full_for held id
  count-decides_full id n row more answer are number =
      let counted = keyed_map.counts devices codec meant old new held here rows id answer in
      let same : min (len (remove held id)) 9223372036854775807 ≡ n =
      ap (λ (rows : List Row). natural_in (column (get_or rows 0 []) 0)) (sym counted ∙ are) ∙ ap natural_in number in
      ap (nat_le max_devices) (omega (arith, same, few_devices shows.holds, remove-not_more held id))

-- ---- an upsert and a deletion

-- the registry is not full for the sender, and the update gives the sender this data
abbrev pub HasRoomAndMakes : DeviceUpdate → ℕ → DeviceData → Devices → Type 0
HasRoomAndMakes update id row held = (is_full_for held id ≡ false) × (apply_update held update ≡ insert held id row)

pub upsert-commits : (update : DeviceUpdate) (id : ℕ) (row : DeviceData) → IsShort row.eep
    → is_label row.label ≡ true → CommitsWithRoom IsVersion2RegistryOf upsert_sql (upsert_params id row)
    (λ held. apply_update held update) (HasRoomAndMakes update id row)
upsert-commits update id row short label =
    keyed_map.upserts_part devices codec meant (λ held. held) map_held (HasRoomAndMakes update id row)
    (λ held. apply_update held update) id row (short, label) (λ before after held had sound makes written.
    let room = makes.0 in
    let few = few_devices had in
    subst (IsVersion2RegistryOf after) (sym makes.1) (written-is_registry had sound written
    (grind (arith, nat_tests, len-insert nat_cmp_total held id row, len-remove nat_cmp_total held id))))

pub delete-commits : (id : ℕ)
    → AlwaysCommits IsVersion2RegistryOf delete_sql (lookup_params id) (λ held. remove held id)
delete-commits id old new r ready =
    keyed_map.deletes_part devices codec meant (λ held. held) map_held (λ held. Unit {0}) (λ held. remove held id) id
    (λ before after held had sound room written. written-is_registry had sound written
    (omega (arith, remove-not_more held id, few_devices had))) old new r ready (λ clean held shows. tt)

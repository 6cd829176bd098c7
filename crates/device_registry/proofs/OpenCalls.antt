-- The postconditions of an open, from those of the calls that it makes.
use Rattle.std.proofs.lemmas.Grind.{common_steps}
use Rattle.keyed_table.proofs.Common.{unchanged_then, survives_then, HasCleanDisk, IsUnchanged, Result, IsDatabase}
use Rattle.keyed_table.proofs.Common.{Database, Survives, Executes, IsTrue, length, IfErr, subst, State, [], Trees}
use Rattle.keyed_table.proofs.Common.{empty, arith, Bool, refl, ◌≡◌, ◌≢◌, inl, inr, Err, sym, ◌∙◌, Ok, ap, ℕ}
use Rattle.device_registry.proofs.Common.{StoreFault, TablesStatus, Absent, Present, Version, First, Second, Devices}
use Rattle.device_registry.proofs.Common.{HasTables, IsRegistry, IsRegistryOfVersion, HoldsInVersion, HoldsVersion2}
use Rattle.device_registry.proofs.Common.{rewrite_version_sql, devices_in, upgraded_rows, OpenFinds, IsReadyWith}
use Rattle.device_registry.proofs.Common.{IsReady, KeepsOtherTables, KeepsRows, IsSettledOpen, IsRegistryIn}
use Rattle.device_registry.proofs.Common.{tables_status}
use Rattle.sqlite.proofs.Callers.{finds_again}
use Rattle.sqlite.specs.Recovery.{Image}
use Rattle.sqlite.specs.Start.{FindsIn}
use Rattle.device_registry.specs.FilesHeld.{FilesHold}
use Rattle.sqlite_disk.specs.declared.Disk.{Ghosts}
use Rattle.device_registry.specs.declared.fault.OpenFault.{OpenFault}
use Rattle.device_registry.specs.declared.fault.OpenFault.TheVariants.{NotARegistry, Failed}
use Rattle.device_registry.specs.Stored.{AreVersion2Trees, AdmitsRegistry}
use Rattle.device_registry.specs.Holding.{RewritesVersion}
use Rattle.device_registry.specs.Opening.{IsPrepared, KeepsFoundDevices, IsForeignDatabase, IsOpened, FailsToOpen}
use Rattle.device_registry.specs.Opening.{FoundDevicesAreUnique, ClosedRegistryIsFound, FailedOpensKeepRegistries}
use Rattle.device_registry.specs.Opening.{ClosedFilesAreFound}
use Rattle.keyed_table.proofs.Statements.{spared_remains, ready_with, survives_itself, updates_from}
use Rattle.keyed_table.proofs.ListedTables.{one_database}
use Rattle.device_registry.proofs.TablesRecognized.{admits, clean_before, is_absent, is_present, status_implies}
use Rattle.device_registry.proofs.DevicesHeld.{trees_devices-unique}
use Rattle.device_registry.proofs.VersionRow.{rewrite-counts_one}
use Rattle.device_registry.proofs.StatementMeanings.{rewrite_means}

-- ---- the status of the tables in the database with these trees

module _ {trees : Trees} (db : Database) (same : db.trees ≡ trees) (sound : IsDatabase db) where
  status-present : {version : Version} {devices : Devices} → HoldsInVersion version trees devices
      → tables_status db.schema ≡ Present version
  status-present {version} holds =
      is_present db sound (rw (one_database (holds.same ∙ sym same) holds.sound sound) at holds.holds.registry.tables)

  status-absent : AdmitsRegistry trees → tables_status db.schema ≡ Absent
  status-absent free =
      is_absent db.schema (rw (one_database (free.same ∙ sym same) free.sound sound) at free.admits_tables)

-- a database is foreign if the tables cannot be created in it, and it is no registry of the version whose tables it has
pub foreign-status : (s : State) {status : TablesStatus} → IsSettledOpen s → tables_status s.now.schema ≡ status
    → status ≢ Absent → ((version : Version) → status ≡ Present version → ¬ IsRegistryIn version s.now.trees)
    → IsForeignDatabase s.now.trees
foreign-status s rest is other none devices (inl (version, holds)) =
    none version (sym is ∙ status-present s.now refl rest.sound holds)
    (record { db = holds.db; same = holds.same; sound = holds.sound; registry = holds.holds.registry })
foreign-status s rest is other none devices (inr (free, _)) = other (sym is ∙ status-absent s.now refl rest.sound free)

-- ---- the devices that are found

-- some devices are found in the database, and they have this property
abbrev pub Finds : Database → (Devices → Type 0) → Type 0
Finds db Are = (devices : Devices) × OpenFinds db.trees devices × Are devices

-- the database was accepted: what `create_or_recognize` ensures
pub record IsAccepted (old new : State) : Type 0 where
  pub prepared : HasCleanDisk new → (devices : Devices) × IsPrepared old new devices
  pub crash : Survives old new (KeepsFoundDevices old.now.trees)
  pub rows : HasCleanDisk new → AreVersion2Trees old.now.trees → KeepsRows old new
  pub written : HasCleanDisk new → AreVersion2Trees old.now.trees → RewritesVersion old new
  pub others : HasCleanDisk new → KeepsOtherTables old.now new.now

-- the step that follows makes a registry of the devices that are found
module _ {old mid new : State} {Are : Devices → Type 0} (found : HasCleanDisk mid → Finds old.now Are)
    (first : Survives old mid (λ _. ⊥))
    (survives : Survives mid new (λ trees. (devices : Devices) → Are devices → HoldsVersion2 trees devices)) where
  pub crash_keeps_found : Survives old new (KeepsFoundDevices old.now.trees)
  crash_keeps_found = survives_then old mid new (λ _. ⊥) _ (KeepsFoundDevices old.now.trees)
      (λ clean trees no. absurd no)
      (λ clean trees left.
      let (devices, finds, are) = found (clean_before survives clean) in
      record { devices = devices; finds = finds; holds = left devices are }) first survives

  pub accepted-step : (HasCleanDisk new → (devices : Devices) → Are devices → IsReadyWith new devices)
      → (HasCleanDisk new → AreVersion2Trees old.now.trees → KeepsRows old new × RewritesVersion old new)
      → (HasCleanDisk new → KeepsOtherTables old.now new.now) → IsAccepted old new
  accepted-step made writes others = record {
    prepared = λ clean.
        let (devices, finds, are) = found (clean_before survives clean) in
        (devices, record { found = finds; shows = made clean devices are });
    crash = crash_keeps_found;
    rows = λ clean held. (writes clean held).0;
    written = λ clean held. (writes clean held).1;
    others = others;
  }

-- the tables are created in a database that has none
module _ {old new : State} (rest : HasCleanDisk old → IsSettledOpen old)
    (absent : tables_status old.now.schema ≡ Absent)
    (crash : Survives old new (λ trees. HoldsVersion2 trees empty)) where
  absent-finds_none : HasCleanDisk old → Finds old.now (λ devices. empty ≡ devices)
  absent-finds_none clean =
      let admitted = (admits old.now.schema).0 (status_implies old.now.schema absent) in
      let free : AdmitsRegistry old.now.trees =
      record { db = old.now; same = refl; sound = (rest clean).sound; admits_tables = admitted } in
      (empty, inr (free, refl), refl)

  creation-leaves_none : Survives old new (λ trees. (devices : Devices) → empty ≡ devices → HoldsVersion2 trees devices)
  creation-leaves_none = grind (arith, common_steps)

  pub creation_crash-keeps_found : Survives old new (KeepsFoundDevices old.now.trees)
  creation_crash-keeps_found = crash_keeps_found absent-finds_none (survives_itself old (λ _. ⊥)) creation-leaves_none

  pub accepted-creation : (HasCleanDisk new → IsReadyWith new empty)
      → (HasCleanDisk new → KeepsOtherTables old.now new.now) → IsAccepted old new
  accepted-creation made = accepted-step absent-finds_none (survives_itself old (λ _. ⊥)) creation-leaves_none
      (λ clean devices is. subst (IsReadyWith new) is (made clean))
      (λ clean held. absurd (let rest = rest (clean_before crash clean) in
      let e = sym (status-present old.now refl rest.sound held.holds) ∙ absent in cc))

-- ---- a registry is recognized

-- the queries changed nothing and recognized a registry of this version
pub record IsRecognized (version : Version) (old mid : State) : Type 0 where
  pub same : IsUnchanged old mid
  pub rest : IsSettledOpen mid
  pub found : Finds old.now (IsRegistryOfVersion version mid.now)

pub recognized_by_queries : {found version : Version} {old mid : State} {answer : Bool} → found ≡ version
    → (HasCleanDisk old → IsSettledOpen old) → Survives old mid (λ _. ⊥)
    → (HasCleanDisk mid → IsUnchanged old mid × (IsTrue answer → IsRegistry found old.now)) → IsTrue answer
    → HasCleanDisk mid → IsRecognized version old mid
recognized_by_queries {version = version} {old} {mid} is settled survives asked ok clean =
    let (same, registry_if) = asked clean in
    let rest = (spared_remains old mid (inl same) same.0.is_open (settled (clean_before survives clean))).0 in
    let registry : IsRegistry version mid.now =
    rw same.0.now_is (subst (λ v. IsRegistry v old.now) is (registry_if ok)) in
    let devices = devices_in (upgraded_rows version (mid.now.trees registry.tables.devices)) in
    let holds : IsRegistryOfVersion version mid.now devices = record { registry = registry; is = refl } in
    let finds = subst (λ (db : Database). OpenFinds db.trees devices) same.0.now_is
    (inl (version, record { db = mid.now; same = refl; sound = rest.sound; holds = holds })) in
    record { same = same; rest = rest; found = (devices, finds, holds) }

-- a registry of version 1 is not one of version 2
pub first-is_not_second : {old mid : State} → IsRecognized First old mid → ¬ AreVersion2Trees old.now.trees
first-is_not_second {mid = mid} known held =
    let e = sym (is_present mid.now known.rest.sound known.found.2.registry.tables)
    ∙ status-present mid.now (ap (λ (db : Database). db.trees) known.same.0.now_is) known.rest.sound held.holds in cc

-- a registry of version 2 is ready
pub found_ready : {old mid : State} → IsRecognized Second old mid → Finds old.now (IsReadyWith mid)
found_ready {mid = mid} known =
    let (devices, finds, holds) = known.found in
    let rest = known.rest in
    (devices, finds, ready_with mid mid.now devices rest.is_open rest.idle rest.settled refl rest.sound holds)

pub recognized_ready : {old mid : State} → IsRecognized Second old mid → IsReady mid
recognized_ready known = let (devices, _, shows) = found_ready known in record { held = devices; shows = shows }

-- on a registry, the statement that rewrites the version row reports one changed row
pub run-rewrites : (old new : State) (count : ℕ) → IsReady old → Executes rewrite_version_sql [] old new (Ok count)
    → RewritesVersion old new
run-rewrites old new count ready runs = rw ((rewrite-counts_one old new count ready runs).1) at runs

-- a rewrite of the version row after queries that changed nothing is a rewrite from the state before them
pub rewrites_from_earlier : (old mid new : State) → HasTables Second old.now.schema → IsUnchanged old mid
    → Survives old mid (λ _. ⊥) → RewritesVersion mid new → RewritesVersion old new
rewrites_from_earlier old mid new tables same survives rewritten =
    let means = rewrite_means old.now.schema tables.meta_at tables.meta tables.meta_is_table in
    updates_from old mid new same survives.limit rewrite_version_sql [] tables.meta_at _ 1 means.is rewritten

pub keeps_rows_from_earlier : {old mid new : State} → IsUnchanged old mid → KeepsRows mid new → KeepsRows old new
keeps_rows_from_earlier {old} {new = new} same kept = grind (arith, common_steps)

-- ---- a successful open

-- `check_open` changed nothing, and showed that the connection is open
module _ {old mid : State} (was : IsUnchanged old mid × IsSettledOpen old) where
  pub checked_is_committed : mid.now.trees ≡ old.committed.trees
  checked_is_committed = ap (λ (db : Database). db.trees) (was.0.0.now_is ∙ was.1.settled)

  -- a prepared registry is opened, if a crash while it is open leaves the last commit
  pub opened-from_prepared : {new : State}
      → ((trees : Trees) → IsTrue new.is_open → new.may_leave trees → trees ≡ new.committed.trees)
      → Survives old mid (λ _. ⊥) → (devices : Devices) × IsPrepared mid new devices
      → (AreVersion2Trees mid.now.trees → RewritesVersion mid new) → IsOpened old new
  opened-from_prepared {new} settled survives (devices, prepared) written =
      let shows = prepared.shows in
      let left : (trees : Trees) → new.may_leave trees → HoldsVersion2 trees devices = λ trees may. record {
        db = new.now;
        same = ap (λ (db : Database). db.trees) shows.settled ∙ sym (settled trees shows.is_open may);
        sound = shows.sound;
        holds = shows.holds;
      } in
      record {
        registries = λ trees may. record { devices = devices; holds = left trees may };
        opens = (
          devices,
          record {
            was_open = was.0.0.was_open;
            found = subst (λ trees. OpenFinds trees devices) checked_is_committed prepared.found;
            now = λ clean is_open. shows.holds;
            crash = λ other (trees, may, holds). trees_devices-unique holds (left trees may);
          },
        );
        ready = record { held = devices; shows = shows };
        written = λ held.
            let trees = held.holds.same ∙ ap (λ (db : Database). db.trees) (sym was.1.settled) in
            let tables = rw (one_database trees held.holds.sound was.1.sound) at held.holds.holds.registry.tables in
            rewrites_from_earlier old mid new tables was.0 survives
            (written (subst AreVersion2Trees (sym checked_is_committed) held));
      }

-- ---- a failure

-- after the connection was shown to be open, a crash may leave the devices that were found
fails-from_crash : {old new : State} (fault : OpenFault)
    → Survives old new (λ trees. IsTrue old.is_open × KeepsFoundDevices old.committed.trees trees)
    → (HasCleanDisk new → fault ≡ NotARegistry → IsForeignDatabase old.committed.trees × IsUnchanged old new
    × ((trees : Trees) → new.may_leave trees → old.may_leave trees)) → FailsToOpen old new fault
fails-from_crash {old} {new} fault survives not_a_registry = grind (arith, common_steps)

-- an open that committed nothing failed with a fault other than `NotARegistry`
pub fails-without_commit : (old new : State) (fault : OpenFault) → fault ≢ NotARegistry → Survives old new (λ _. ⊥)
    → FailsToOpen old new fault
fails-without_commit old new fault other survives = grind (arith, common_steps)

-- the open failed before its first call of the database, when it allocated the cache
pub fails-without_call : (s : State) (fault : StoreFault) → FailsToOpen s s (Failed fault)
fails-without_call s fault = grind (arith, common_steps)

-- if `create_or_recognize` fails, its postconditions also hold for the state before `check_open`
pub fails-after_check : {T : Type 0} (r : Result T OpenFault) (old mid new : State)
    → (HasCleanDisk mid → IsUnchanged old mid × IsSettledOpen old) → Survives old mid (λ _. ⊥)
    → Survives mid new (KeepsFoundDevices mid.now.trees)
    → (HasCleanDisk new → r ≡ Err NotARegistry → IsForeignDatabase mid.now.trees)
    → (HasCleanDisk new → r
    ≡ Err NotARegistry → IsUnchanged mid new × ((trees : Trees) → new.may_leave trees → mid.may_leave trees))
    → IfErr r (FailsToOpen old new)
fails-after_check (Ok v) old mid new was first second other same = tt
fails-after_check (Err fault) old mid new was first second other same =
    fails-from_crash fault (survives_then old mid new (λ _. ⊥) (KeepsFoundDevices mid.now.trees) _
    (λ clean trees no. absurd no)
    (λ clean trees kept.
    let early = was (clean_before second clean) in
    (early.0.0.was_open, subst (λ found. KeepsFoundDevices found trees) (checked_is_committed early) kept)) first
    second)
    (λ clean is.
    let between = clean_before second clean in
    let early = was between in
    let (late, left) = same clean (ap Err is) in (
      subst IsForeignDatabase (checked_is_committed early) (other clean (ap Err is)),
      unchanged_then old mid new early.0 late,
      λ trees may. elim (first.crash between trees (left trees may)) [ inl before ↦ before | inr none ↦ absurd none ],
    ))

-- ---- the devices that the next open finds

pub found_devices_are_unique : FoundDevicesAreUnique
found_devices_are_unique trees left found (inl (v, one)) (inl (w, two)) =
    let e = sym (status-present one.db one.same one.sound one) ∙ status-present one.db one.same one.sound two in
    let versions : v ≡ w = cc in
    trees_devices-unique (subst (λ u. HoldsInVersion u trees left) versions one) two
found_devices_are_unique trees left found (inl (v, one)) (inr (free, is)) = absurd (let e =
    sym (status-present one.db one.same one.sound one) ∙ status-absent one.db one.same one.sound free in cc)
found_devices_are_unique trees left found (inr (free, is)) (inl (w, two)) = absurd (let e =
    sym (status-present two.db two.same two.sound two) ∙ status-absent two.db two.same two.sound free in cc)
found_devices_are_unique trees left found (inr (free, is)) (inr (again, too)) = is ∙ sym too

pub failed_opens_keep_registries : {C : Type 0} (state : C → State) → FailedOpensKeepRegistries state
failed_opens_keep_registries state old new fault clean failed = (
  λ before trees may. elim (failed.crash clean trees may) [
    | inl early ↦ before trees early
    | inr kept ↦ (kept.1.devices, inl (Second, kept.1.holds))
  ],
  λ devices (trees, may, finds). elim (failed.crash clean trees may) [
    | inl early ↦ inl (trees, early, finds)
    | inr kept ↦ inr (
      kept.0,
      subst (OpenFinds (state old).committed.trees)
          (found_devices_are_unique _ kept.1.devices devices (inl (Second, kept.1.holds)) finds) kept.1.finds,
    )
  ],
)

pub closed_registry_is_found : {C : Type 0} (state : C → State) → ClosedRegistryIsFound state
closed_registry_is_found state closed opened devices found clean committed has opens =
    let holds = committed clean opens.was_open devices has in
    sym (found_devices_are_unique _ devices found (inl (Second, holds)) opens.found)

pub closed_files_are_found : {D : Type 0} (g : Ghosts D) → ClosedFilesAreFound g
closed_files_are_found g closed opened files devices copied finds committed has =
    let holds = subst (λ trees. HoldsVersion2 trees devices) (sym (finds_again closed opened files (λ _. copied) finds))
    (committed copied.was_clean copied.was_open devices has) in
    (inl (Second, holds), λ found other. sym (found_devices_are_unique _ devices found (inl (Second, holds)) other))

-- ---- what an open of two files finds

-- the devices of the files are those of the database that the open shows
pub held_in_files : (image : Image) (opened : State) (devices : Devices) → FindsIn image opened
    → FilesHold image devices → OpenFinds opened.committed.trees devices
held_in_files image opened devices finds (trees, holds, are) =
    subst (λ trees. OpenFinds trees devices) (sym (finds.holds trees holds)) are

-- an open finds no other devices
pub found_in_files : (image : Image) (opened : State) (found devices : Devices) → FindsIn image opened
    → OpenFinds opened.committed.trees found → FilesHold image devices → found ≡ devices
found_in_files image opened found devices finds has held =
    found_devices_are_unique _ found devices has (held_in_files image opened devices finds held)

-- no devices are found if the database file is empty
pub found_in_new_file : (image : Image) (opened : State) (found : Devices) → FindsIn image opened
    → OpenFinds opened.committed.trees found → length image.db ≡ 0 → found ≡ empty
found_in_new_file image opened found finds has no_file = grind (arith, common_steps)

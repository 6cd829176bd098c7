-- The states that an open finds and leaves.
use Rattle.std.specs.Prelude.{ℕ, ◌≡◌, ◌≢◌, ◌⊎◌, ◌≤◌, IsTrue}
use Rattle.std.specs.FinMap.{len}
use Rattle.sqlite.specs.Effect.{Database, IsDatabase}
use Rattle.sqlite.specs.State.{State, HasCleanDisk, IsUnchanged, Survives}
use Rattle.sqlite.specs.Held.{Held}
use Rattle.sqlite.specs.Files.{file_state, Finds as FindsFiles}
use Rattle.sqlite.specs.Closing.{IsCopied}
use Rattle.sqlite_disk.specs.declared.Disk.{Ghosts}
use Rattle.sqlite_disk.specs.declared.Files.{Files}
use Rattle.sqlite_store.specs.declared.store.FileStore.{FileStore}
use Rattle.sqlite_trees.specs.Tree.{Trees}
pub use Rattle.keyed_table.specs.Stores.{IsSettledOpen, KeepsDatabaseIfStillOpen}
use Rattle.device_registry.specs.declared.fault.OpenFault.{OpenFault}
use Rattle.device_registry.specs.declared.fault.OpenFault.TheVariants.{NotARegistry}
use Rattle.device_registry.specs.declared.table.Version.{Version}
use Rattle.learned_devices.specs.Devices.{Devices, max_devices}
use Rattle.device_registry.specs.Stored.{IsRegistry, HoldsVersion2, AreVersion2Trees}
use Rattle.device_registry.specs.Ready.{IsReadyWith, IsReady}
use Rattle.device_registry.specs.Holding.{AreVersion2Registries, HasDevicesIfOpen, DevicesAreCommitted, RewritesVersion}
use Rattle.device_registry.specs.Holding.{OpenFinds, Opens}

-- the maximum size of the cache of looked-up senders. Own choice
abbrev pub max_cached : ℕ
max_cached = 1024

-- the database is prepared: the registry is open with the devices that were found
pub record IsPrepared (old new : State) (devices : Devices) : Type 0 where
  pub found : OpenFinds old.now.trees devices
  pub shows : IsReadyWith new devices

-- An open succeeded: the database was a registry, or the open made it one.
pub record IsOpened (old new : State) : Type 0 where
  -- whatever a crash leaves is a registry
  pub registries : AreVersion2Registries new.may_leave
  -- the registry has the devices that were committed last, and a crash leaves only these
  pub opens : (devices : Devices) × Opens old new devices
  -- the connection is open, with no open transaction
  pub ready : IsReady new
  -- if it was a registry of version 2, it was changed exactly by the text that rewrites its version row unchanged
  pub written : AreVersion2Trees old.committed.trees → RewritesVersion old new

-- a registry of this version as this program leaves it
pub record IsRegistryIn (version : Version) (trees : Trees) : Type 0 where
  pub db : Database
  pub same : db.trees ≡ trees
  pub sound : IsDatabase db
  pub registry : IsRegistry version db

-- the trees of a registry of version 2 with the devices that are found in the other trees
pub record KeepsFoundDevices (found left : Trees) : Type 0 where
  pub devices : Devices
  pub finds : OpenFinds found devices
  pub holds : HoldsVersion2 left devices

-- No devices are found in the trees: they are neither those of a registry of either version as this program leaves it,
-- nor those of a database in which the tables can be created.
abbrev pub IsForeignDatabase : Trees → Type 0
IsForeignDatabase trees = (devices : Devices) → ¬ OpenFinds trees devices

-- A database is rejected, or opening it failed. One that is no registry is as it was. After another fault, a crash
-- leaves what it could leave before, or a registry of the devices that were committed.
pub record FailsToOpen (old new : State) (fault : OpenFault) : Type 0 where
  pub survives : Survives old new (KeepsFoundDevices old.committed.trees)
  pub clean : HasCleanDisk new → HasCleanDisk old
  pub not_a_registry : HasCleanDisk new → fault ≡ NotARegistry → IsForeignDatabase old.committed.trees
      × IsUnchanged old new
      × ((trees : Trees) → new.may_leave trees → old.may_leave trees)
  pub crash : HasCleanDisk new → (trees : Trees) → new.may_leave trees
      → old.may_leave trees ⊎ (IsTrue old.is_open × KeepsFoundDevices old.committed.trees trees)

-- An open failed, and dropped its connection. After `NotARegistry`, some state satisfies `FailsToOpen`. No contract
-- says that it is the last state of the connection.
abbrev pub FailsAndDrops : {C : Type 0} → (C → State) → C → OpenFault → Type 0
FailsAndDrops {C} state conn fault =
    fault ≡ NotARegistry → (last : C) × FailsToOpen (state conn) (state last) fault

-- ---- theorems

-- a registry has at most 1,000 devices
abbrev pub DevicesAreLimited : Type 0
DevicesAreLimited = (trees : Trees) (devices : Devices) → HoldsVersion2 trees devices → len devices ≤ max_devices

-- the devices that an open finds in what a crash left are unique, however often it is opened
abbrev pub FoundDevicesAreUnique : Type 0
FoundDevicesAreUnique =
    (trees : Trees) (left found : Devices) → OpenFinds trees left → OpenFinds trees found → left ≡ found

-- the next open after a crash at this moment may find these devices
abbrev pub MayFindAfterCrash : State → Devices → Type 0
MayFindAfterCrash s devices = (trees : Trees) × s.may_leave trees × OpenFinds trees devices

-- the next open finds some devices in whatever a crash leaves at this moment
abbrev pub FindsSomeAfterCrash : State → Type 0
FindsSomeAfterCrash s = (trees : Trees) → s.may_leave trees → (devices : Devices) × OpenFinds trees devices

-- After a failed open, the next one finds devices if it would have found some before. They are what it could have found
-- before, or what was committed then.
abbrev pub FailedOpensKeepRegistries : {C : Type 0} → (C → State) → Type 0
FailedOpensKeepRegistries {C} state = (old new : C) (fault : OpenFault) → HasCleanDisk (state new)
    → FailsToOpen (state old) (state new) fault
    → (FindsSomeAfterCrash (state old) → FindsSomeAfterCrash (state new))
    × ((devices : Devices) → MayFindAfterCrash (state new) devices → MayFindAfterCrash (state old) devices
    ⊎ (IsTrue (state old).is_open × OpenFinds (state old).committed.trees devices))

-- No open rejects, as no registry, a database in which devices are found. They are found in whatever a crash leaves of
-- an opened registry.
abbrev pub RegistriesAreRecognized : {C : Type 0} → (C → State) → Type 0
RegistriesAreRecognized {C} state =
    ((trees : Trees) → AreVersion2Trees trees → (devices : Devices) × OpenFinds trees devices)
    × ((old new : C) (fault : OpenFault) (devices : Devices) → HasCleanDisk (state new)
    → FailsToOpen (state old) (state new) fault → OpenFinds (state old).committed.trees devices → fault ≢ NotARegistry)

-- Only a database that is no registry is rejected as such. This also holds of an open that drops its connection, if
-- the disk had returned what was written when the connection was dropped.
abbrev pub OnlyNonRegistriesAreRejected : {C : Type 0} → (C → State) → Type 0
OnlyNonRegistriesAreRejected {C} state = (conn last : C) → HasCleanDisk (state last)
    → FailsToOpen (state conn) (state last) NotARegistry → IsForeignDatabase (state conn).committed.trees

-- the next open finds what a closed registry returned
abbrev pub ClosedRegistryIsFound : {C : Type 0} → (C → State) → Type 0
ClosedRegistryIsFound {C} state = (closed opened : C) (devices found : Devices) → HasCleanDisk (state closed)
    → DevicesAreCommitted (state closed)
    → HasDevicesIfOpen (state closed) devices → Opens (state closed) (state opened) found → found ≡ devices

-- after SQLite has closed the files of a registry, an open of these files finds exactly what the registry held
abbrev pub ClosedFilesAreFound : {D : Type 0} → Ghosts D → Type 0
ClosedFilesAreFound {D} g =
    (closed opened : Held (FileStore D g)) (files : Files D) (devices : Devices) → IsCopied closed files
    → FindsFiles files opened → DevicesAreCommitted (file_state closed) → HasDevicesIfOpen (file_state closed) devices
    → OpenFinds (file_state opened).committed.trees devices
    × ((found : Devices) → OpenFinds (file_state opened).committed.trees found → found ≡ devices)

-- The devices that a registry holds, those that a crash may leave, and what its calls write.
use Rattle.std.specs.Prelude.{◌≡◌, ◌⊎◌, ℕ, false, IsTrue, [], Option, Some, None, Ok}
use Rattle.std.specs.FinMap.{empty, get}
use Rattle.sqlite.specs.State.{State, HasCleanDisk, Executes}
use Rattle.sqlite_trees.specs.Tree.{Trees}
use Rattle.learned_devices.specs.Devices.{Devices, DeviceData, Operation, Learn, Forget, Relabel, DeviceUpdate}
use Rattle.learned_devices.specs.Devices.{data_after}
use Rattle.learned_devices.specs.DeviceStoreState.{DeviceStoreState}
use Rattle.device_registry.specs.declared.table.Version.{Version}
use Rattle.device_registry.specs.Table.{upsert_sql, rewrite_version_sql}
use Rattle.device_registry.specs.Table.Rows.{upsert_params}
use Rattle.device_registry.specs.Stored.{IsVersion2RegistryOf, HoldsInVersion, HoldsVersion2, AreVersion2Trees}
use Rattle.device_registry.specs.Stored.{AdmitsRegistry}

-- while the disk is clean and the connection is open, the registry holds these devices
abbrev pub HasDevicesIfOpen : State → Devices → Type 0
HasDevicesIfOpen s devices = HasCleanDisk s → IsTrue s.is_open → IsVersion2RegistryOf s.now devices

-- while the disk is clean and the connection is open, the registry holds some devices
abbrev pub HasSomeDevicesIfOpen : State → Type 0
HasSomeDevicesIfOpen s = HasCleanDisk s → (devices : Devices) × HasDevicesIfOpen s devices

-- a crash may leave these devices
abbrev pub MayRecover : State → Devices → Type 0
MayRecover s devices = (trees : Trees) × s.may_leave trees × HoldsVersion2 trees devices

-- a crash leaves some devices
abbrev pub SomeDevicesAreLeft : State → Type 0
SomeDevicesAreLeft s = HasCleanDisk s → ∥ ((left : Devices) × MayRecover s left) ∥₁

-- while the connection is open, a crash may leave the devices that the registry holds
abbrev pub HeldDevicesMayBeLeft : State → Type 0
HeldDevicesMayBeLeft s = HasCleanDisk s → IsTrue s.is_open → (devices : Devices) → HasDevicesIfOpen s devices
    → MayRecover s devices

-- whatever a crash leaves is a registry
abbrev pub AreVersion2Registries : (Trees → Type 0) → Type 0
AreVersion2Registries may_leave = (trees : Trees) → may_leave trees → AreVersion2Trees trees

-- the state of a registry as a device store, over a connection with this state and this count of commits
abbrev pub registry_state : State → (commits : Option ℕ) → DeviceStoreState
registry_state s commits = record {
  honest = HasCleanDisk s;
  holds = HasDevicesIfOpen s;
  may_recover = MayRecover s;
  reopenable = AreVersion2Registries s.may_leave;
  commits = commits;
}

-- the same for a registry over a connection
abbrev pub registry_state_of : {C : Type 0} → (C → State) → (commits : C → Option ℕ) → C → DeviceStoreState
registry_state_of state commits conn = registry_state (state conn) (commits conn)

-- a connection of `sqlite` does not count its commits
abbrev pub uncounted : {C : Type 0} → C → Option ℕ
uncounted conn = None

-- the registry holds exactly the committed devices
abbrev pub DevicesAreCommitted : State → Type 0
DevicesAreCommitted s = HasCleanDisk s → IsTrue s.is_open → (devices : Devices) → HasDevicesIfOpen s devices
    → HoldsVersion2 s.committed.trees devices

-- a database with these trees is a registry of these devices, of either version; or it has none of the tables, they can
-- be created, and there are no devices
abbrev pub OpenFinds : Trees → Devices → Type 0
OpenFinds trees devices =
    ((version : Version) × HoldsInVersion version trees devices) ⊎ (AdmitsRegistry trees × (devices ≡ empty))

-- The registry is opened: it has the devices that were committed last, and a crash leaves only these.
pub record Opens (old new : State) (devices : Devices) : Type 0 where
  pub was_open : IsTrue old.is_open
  pub found : OpenFinds old.committed.trees devices
  pub now : HasDevicesIfOpen new devices
  pub crash : (left : Devices) → MayRecover new left → left ≡ devices

-- The state was changed exactly by the text that rewrites the version row unchanged, which counts one row. Outside a
-- transaction this is a commit. It is an observable change, because SQLite counts the row. A later rollback would leave
-- the same.
abbrev pub RewritesVersion : (old new : State) → Type 0
RewritesVersion old new = Executes rewrite_version_sql [] old new (Ok 1)

-- The last operation on the state is the statement that upserts the row of the update's sender, over the same devices.
-- It is an observable change, because SQLite counts the row.
pub record WritesRow {C : Type 0} (state : C → State) (new : C) (update : DeviceUpdate) (devices : Devices) : Type 0
  where
    pub row : DeviceData
    pub is : data_after (get devices update.sender) update.operation ≡ Some row
    pub before : C
    pub had : HasDevicesIfOpen (state before) devices
    pub count : ℕ
    pub executed : Executes upsert_sql (upsert_params update.sender row) (state before) (state new) (Ok count)

module _ {C : Type 0} (state : C → State) (old new : C) (update : DeviceUpdate) (devices : Devices) where
  -- The last statement wrote the row of the sender. If an unknown sender was forgotten, the call wrote the version row.
  abbrev pub WritesRowForOperation : Operation → Type 0
  WritesRowForOperation (Learn eep maker) = WritesRow state new update devices
  WritesRowForOperation (Relabel label) = WritesRow state new update devices
  WritesRowForOperation Forget = get devices update.sender ≡ None → RewritesVersion (state old) (state new)

  -- the row that the call wrote for the update, even if it changed nothing
  abbrev pub WritesRowForUpdate : Type 0
  WritesRowForUpdate = WritesRowForOperation update.operation

-- the connection is returned with no open transaction, and what the registry holds is committed
pub record IsReturnedByClose (s : State) : Type 0 where
  pub idle : HasCleanDisk s → IsTrue s.is_open → s.in_transaction ≡ false
  pub committed : DevicesAreCommitted s

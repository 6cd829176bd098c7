-- The state of a device store, for any implementation, and how an update changes it. Own choice.
use Rattle.std.specs.Prelude.{◌≡◌, ◌⊎◌, ℕ, Option}
use Rattle.learned_devices.specs.Devices.{Devices, DeviceUpdate, apply_update}

-- The state of a device store at one moment.
pub record DeviceStoreState : Type 1 where
  -- so far the medium has returned what was written to it; all that follows depends on this
  pub honest : Type 0
  -- the device store holds these devices, as long as it is open
  pub holds : Devices → Type 0
  -- a crash may leave these devices
  pub may_recover : Devices → Type 0
  -- whatever a crash leaves can be opened again (for a registry: it is a registry)
  pub reopenable : Type 0
  -- how many calls that may commit were made so far, if they are counted
  pub commits : Option ℕ

-- the devices are as they were, and a crash leaves only what it could leave before
pub record Keeps (old new : DeviceStoreState) (devices : Devices) : Type 0 where
  pub now : new.holds devices
  pub crash : (left : Devices) → new.may_recover left → old.may_recover left

-- the update is committed: the device store holds it, and a crash leaves only the updated devices
pub record Commits (new : DeviceStoreState) (update : DeviceUpdate) (devices : Devices) : Type 0 where
  pub now : new.holds (apply_update devices update)
  pub crash : (left : Devices) → new.may_recover left → left ≡ apply_update devices update

-- a crash may leave only what it could leave before, or the updated devices
abbrev pub MayLeaveUpdate : (old new : DeviceStoreState) → DeviceUpdate → Devices → Type 0
MayLeaveUpdate old new update devices = (left : Devices) → new.may_recover left
    → old.may_recover left ⊎ (left ≡ apply_update devices update)

-- the call failed, at its commit or before: the devices are as they were, but a crash may leave the updated ones
pub record LeavesPending (old new : DeviceStoreState) (update : DeviceUpdate) (devices : Devices) : Type 0 where
  pub now : new.holds devices
  pub crash : MayLeaveUpdate old new update devices

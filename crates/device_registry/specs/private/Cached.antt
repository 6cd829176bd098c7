-- The cache of looked-up senders.
use Rattle.std.specs.Prelude.{◌≡◌, ℕ, List, Option, Contains}
use Rattle.sqlite.specs.State.{State, HasCleanDisk}
use Rattle.learned_devices.specs.declared.Device.{Device}
use Rattle.learned_devices.specs.Devices.{Devices, device_of}
use Rattle.device_registry.specs.Holding.{HasDevicesIfOpen}
use Rattle.device_registry.specs.Ready.{IsReady}

-- the registry is open, and the entry agrees with it about the sender
pub record EntryAgrees (s : State) (entry : ℕ × Option Device) : Type 0 where
  pub ready : IsReady s
  pub is : (devices : Devices) → HasDevicesIfOpen s devices → entry.1 ≡ device_of devices entry.0

-- each entry agrees, so the cache is empty if the connection may be closed
abbrev pub CacheAgreesIfClean : State → List (ℕ × Option Device) → Type 0
CacheAgreesIfClean s entries =
    (entry : ℕ × Option Device) → Contains entries entry → HasCleanDisk s → EntryAgrees s entry

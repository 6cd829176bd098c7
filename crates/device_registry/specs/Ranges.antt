-- The numbers of the devices in a registry are in range.
use Rattle.std.specs.Prelude.{IsTrue}
use Rattle.sqlite.specs.State.{State, HasCleanDisk}
use Rattle.sqlite_trees.specs.Tree.{Trees}
use Rattle.learned_devices.specs.Devices.{Devices}
use Rattle.learned_devices.specs.Ranges.{AreInRange}
use Rattle.device_registry.specs.Holding.{OpenFinds, HasDevicesIfOpen, MayRecover, Opens}

-- These devices are in range: those that a registry holds, while the disk has returned what was written and the
-- connection is open; those that a crash may leave; and those that an open or a start finds.
pub record RegistriesAreInRange {C : Type 0} (state : C → State) : Type 0 where
  pub held : (c : C) (devices : Devices) → HasCleanDisk (state c) → IsTrue (state c).is_open
      → HasDevicesIfOpen (state c) devices → AreInRange devices
  pub left : (c : C) (devices : Devices) → MayRecover (state c) devices → AreInRange devices
  pub found : (trees : Trees) (devices : Devices) → OpenFinds trees devices → AreInRange devices
  pub opened : (old new : C) (devices : Devices) → Opens (state old) (state new) devices → AreInRange devices

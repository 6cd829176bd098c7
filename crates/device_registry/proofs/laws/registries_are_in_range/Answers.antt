use Rattle.keyed_table.proofs.Common.{inl, inr, List, [], ◌∷◌, Some, sym, subst, AllByRecursion, Row, Trees}
use Rattle.device_registry.proofs.Common.{Devices, OpenFinds, IsDeviceRow, entry_of, devices_in, Second}
use Rattle.learned_devices.specs.Ranges.{AreInRange}
use Rattle.learned_devices.proofs.ForCallers.{empty-in, entered-in}
use Rattle.device_registry.proofs.DeviceRows.{row-in}
use Rattle.device_registry.proofs.laws.registries_are_in_range.Goals as goal

rows-in : (rows : List Row) → AllByRecursion IsDeviceRow rows → AreInRange (devices_in rows)
rows-in [] all = empty-in
rows-in (row ∷ rows) all =
    entered-in (devices_in rows) _ (Some (entry_of row).1) (row-in row all.0) (rows-in rows all.1)

found-in : (trees : Trees) (devices : Devices) → OpenFinds trees devices → AreInRange devices
found-in trees devices (inl (version, held)) =
    subst AreInRange held.holds.is (rows-in _ held.holds.registry.valid_rows.rows)
found-in trees devices (inr (free, none)) = subst AreInRange (sym none) empty-in

pub returns : goal.returns
returns g c = record {
  held = λ c devices clean is_open has.
      let registry = has clean is_open in subst AreInRange registry.is (rows-in _ registry.registry.valid_rows.rows);
  left = λ c devices (trees, leaves, holds). found-in trees devices (inl (Second, holds));
  found = found-in;
  opened = λ old new devices opens. found-in _ devices opens.found;
}

use Rattle.keyed_table.proofs.Common.{◌≡◌, drop}
use Rattle.device_registry.proofs.Common.{are_ascending_devices}
use Rattle.device_registry.proofs.table.row_codec.are_ascending_devices.Given as goal

abbrev pub invariant-loop-row : goal.invariant-loop-row
invariant-loop-row l = are_ascending_devices 0 l.rows ≡ are_ascending_devices l.least (drop l.row-index l.rows)

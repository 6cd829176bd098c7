use Rattle.keyed_table.proofs.Common.{◌≡◌, map, take}
use Rattle.device_registry.proofs.Common.{shown_device}
use Rattle.device_registry.proofs.table.row_codec.decode_all.Given as goal

abbrev pub invariant-loop-row : goal.invariant-loop-row
invariant-loop-row l = l.all.items ≡ map shown_device (take l.row-index l.rows)

use Rattle.keyed_table.proofs.Common.{refl}
use Rattle.device_registry.proofs.laws.only_non_registries_are_rejected.Goals as goal

pub returns : goal.returns
returns g c conn last clean failed = (failed.not_a_registry clean refl).0

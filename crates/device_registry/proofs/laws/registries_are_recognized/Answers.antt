use Rattle.keyed_table.proofs.Common.{inl}
use Rattle.device_registry.proofs.Common.{Second}
use Rattle.device_registry.proofs.laws.registries_are_recognized.Goals as goal

pub returns : goal.returns
returns g c = (
  λ trees registry. (registry.devices, inl (Second, registry.holds)),
  λ old new fault devices clean failed finds is. (failed.not_a_registry clean is).0 devices finds,
)

use Rattle.device_registry.proofs.DevicesHeld.{devices_are_limited}
use Rattle.device_registry.proofs.laws.devices_are_limited.Goals as goal

pub returns : goal.returns
returns c = devices_are_limited

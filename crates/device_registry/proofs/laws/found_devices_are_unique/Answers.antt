use Rattle.device_registry.proofs.OpenCalls.{found_devices_are_unique}
use Rattle.device_registry.proofs.laws.found_devices_are_unique.Goals as goal

pub returns : goal.returns
returns c = found_devices_are_unique

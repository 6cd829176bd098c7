use Rattle.device_registry.proofs.OpenCalls.{closed_files_are_found}
use Rattle.device_registry.proofs.laws.closed_files_are_found.Goals as goal

pub returns : goal.returns
returns g c = closed_files_are_found g.D.Disk

use Rattle.device_registry.proofs.OpenCalls.{closed_registry_is_found}
use Rattle.device_registry.proofs.laws.closed_registry_is_found.Goals as goal

pub returns : goal.returns
returns g c = closed_registry_is_found g.C.SqlConnection.state

use Rattle.device_registry.proofs.OpenCalls.{failed_opens_keep_registries}
use Rattle.device_registry.proofs.laws.failed_opens_keep_registries.Goals as goal

pub returns : goal.returns
returns g c = failed_opens_keep_registries g.C.SqlConnection.state

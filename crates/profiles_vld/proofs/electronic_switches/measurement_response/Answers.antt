use Rattle.std.proofs.Common.{rules}
use Rattle.profiles_vld.proofs.electronic_switches.measurement_response.Goals as goal

pub returns-in-Ok-2-clause-exact : goal.returns-in-Ok-2-clause-exact
returns-in-Ok-2-clause-exact c = search rules

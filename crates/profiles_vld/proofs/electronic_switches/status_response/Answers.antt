use Rattle.std.proofs.Common.{rules}
use Rattle.profiles_vld.proofs.electronic_switches.status_response.Goals as goal

pub returns-clause-exact : goal.returns-clause-exact
returns-clause-exact c = search rules

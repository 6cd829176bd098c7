use Rattle.std.proofs.lemmas.Grind.{common_steps}
use Rattle.std.proofs.Common.{arith}
use Rattle.profiles_rps.proofs.ReadLemmas.{of-no-rows}
use Rattle.profiles_rps.proofs.profiles.read.Goals as goal

pub returns-in_default-clause-exact : goal.returns-in_default-clause-exact
returns-in_default-clause-exact c = grind (arith, common_steps, of-no-rows)

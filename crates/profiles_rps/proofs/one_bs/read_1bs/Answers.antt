use Rattle.std.proofs.lemmas.Grind.{common_steps}
use Rattle.std.proofs.Common.{arith}
use Rattle.profiles_rps.proofs.ReadLemmas.{of-not-one}
use Rattle.profiles_rps.proofs.one_bs.read_1bs.Goals as goal

pub returns-in_default-clause-exact : goal.returns-in_default-clause-exact
returns-in_default-clause-exact c = grind (arith, common_steps, of-not-one)

use Rattle.std.proofs.lemmas.Grind.{common_steps}
use Rattle.std.proofs.Common.{arith}
use Rattle.profiles_4bs.proofs.ReadLemmas.{not-supported}
use Rattle.profiles_4bs.proofs.profiles.supports.Goals as goal

pub returns-in_default : goal.returns-in_default
returns-in_default c = grind (arith, common_steps, not-supported)

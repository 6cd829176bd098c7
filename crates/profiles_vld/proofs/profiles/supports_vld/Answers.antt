use Rattle.std.proofs.Common.{rules}
use Rattle.profiles_vld.proofs.profiles.supports_vld.Goals as goal

pub returns : goal.returns
returns c = search rules

use Rattle.std.proofs.Common.{rules}
use Rattle.profiles_vld.proofs.electronic_switches.read_if_supported.Goals as goal

pub returns-in_default : goal.returns-in_default
returns-in_default c = search rules

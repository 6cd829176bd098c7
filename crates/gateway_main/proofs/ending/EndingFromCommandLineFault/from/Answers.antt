use Rattle.std.proofs.Common.{rules}
use Rattle.gateway_main.proofs.ending.EndingFromCommandLineFault.from.Goals as goal

pub returns-in-ClapError : goal.returns-in-ClapError
returns-in-ClapError c = search rules

pub returns-in_default : goal.returns-in_default
returns-in_default c = search rules

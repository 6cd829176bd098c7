use Rattle.std.proofs.Common.{rules}
use Rattle.gateway_main.proofs.ending.ending_without_arguments.Goals as goal

pub returns-in-OutOfMemory : goal.returns-in-OutOfMemory
returns-in-OutOfMemory c = search rules

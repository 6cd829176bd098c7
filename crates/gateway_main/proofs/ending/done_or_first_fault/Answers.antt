use Rattle.std.proofs.Common.{rules}
use Rattle.gateway_main.proofs.ending.done_or_first_fault.Goals as goal

pub returns-in_err-closed : goal.returns-in_err-closed
returns-in_err-closed c = search rules

pub returns : goal.returns
returns c = search rules

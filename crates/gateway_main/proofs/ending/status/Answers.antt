use Rattle.std.proofs.Common.{rules}
use Rattle.gateway_main.proofs.ending.status.Goals as goal

pub returns-in-Err-Failed : goal.returns-in-Err-Failed
returns-in-Err-Failed c = search rules

pub returns-in-DisplayHelp : goal.returns-in-DisplayHelp
returns-in-DisplayHelp c = search rules

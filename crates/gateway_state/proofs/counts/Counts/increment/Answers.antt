use Rattle.std.proofs.Common.{rules}
use Rattle.gateway_state.proofs.counts.Counts.increment.Goals as goal

pub returns-in-Reading : goal.returns-in-Reading
returns-in-Reading c = search rules

pub returns-in-TeachLine : goal.returns-in-TeachLine
returns-in-TeachLine c = search rules

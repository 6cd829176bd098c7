use Rattle.std.proofs.Common.{rules}
use Rattle.gateway_state.proofs.counts.Counts.zero.Goals as goal

pub returns : goal.returns
returns c = search rules

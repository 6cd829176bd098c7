use Rattle.gateway_core.proofs.PrefixLemmas.{sessions_leave_prefixes}
use Rattle.gateway_core.proofs.laws.sessions_leave_prefixes.Goals as goal

pub returns : goal.returns
returns c = sessions_leave_prefixes

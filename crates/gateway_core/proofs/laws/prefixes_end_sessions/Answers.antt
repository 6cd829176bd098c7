use Rattle.gateway_core.proofs.PrefixLemmas.{prefixes_end_sessions}
use Rattle.gateway_core.proofs.laws.prefixes_end_sessions.Goals as goal

pub returns : goal.returns
returns c = prefixes_end_sessions

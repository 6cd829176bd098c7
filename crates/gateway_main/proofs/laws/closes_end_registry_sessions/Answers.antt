use Rattle.gateway_main.proofs.SessionLemmas.{closes_end_registry_sessions}
use Rattle.gateway_main.proofs.laws.closes_end_registry_sessions.Goals as goal

pub returns : goal.returns
returns g c = closes_end_registry_sessions g.C.SqlConnection.state g.C.SqlConnection.commits

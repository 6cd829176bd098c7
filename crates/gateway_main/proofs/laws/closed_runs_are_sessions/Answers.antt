use Rattle.gateway_main.proofs.SessionLemmas.{closed_runs_are_sessions, broken_closed_runs_are_sessions}
use Rattle.gateway_main.proofs.laws.closed_runs_are_sessions.Goals as goal

pub returns-clause-replay : goal.returns-clause-replay
returns-clause-replay g c =
    λ explains sink sink_now. closed_runs_are_sessions g.C.SqlConnection.state g.C.SqlConnection.commits _

pub returns-clause-broken_replay : goal.returns-clause-broken_replay
returns-clause-broken_replay g c =
    λ explains sink sink_now. broken_closed_runs_are_sessions g.C.SqlConnection.state g.C.SqlConnection.commits _

pub returns-clause-live : goal.returns-clause-live
returns-clause-live g c =
    λ explains serial serial_now desk desk_now.
    closed_runs_are_sessions g.C.SqlConnection.state g.C.SqlConnection.commits _

pub returns-clause-broken_live : goal.returns-clause-broken_live
returns-clause-broken_live g c =
    λ explains serial serial_now desk desk_now.
    broken_closed_runs_are_sessions g.C.SqlConnection.state g.C.SqlConnection.commits _

use Rattle.gateway_core.proofs.ReportingLemmas.{updates_are_reported}
use Rattle.gateway_core.proofs.laws.updates_are_reported.Goals as goal

pub returns : goal.returns
returns c = updates_are_reported

use Rattle.gateway_core.proofs.AcknowledgementLemmas.{accepted_or_deleted_is_durable}
use Rattle.gateway_core.proofs.laws.accepted_or_deleted_is_durable.Goals as goal

pub returns : goal.returns
returns c = accepted_or_deleted_is_durable

use Rattle.gateway_core.proofs.ReplyLemmas.{radio_is_reply_or_ordered}
use Rattle.gateway_core.proofs.laws.radio_is_reply_or_ordered.Goals as goal

pub returns : goal.returns
returns c = radio_is_reply_or_ordered

use Rattle.gateway_core.proofs.CountLemmas.{applied_packets_are_counted}
use Rattle.gateway_core.proofs.laws.applied_packets_are_counted.Goals as goal

pub returns : goal.returns
returns c = applied_packets_are_counted

use Rattle.std.proofs.Common.{rules}
use Rattle.gateway_core.proofs.gateway.GatewayOver.next.Goals as goal

pub returns : goal.returns
returns g c = search rules

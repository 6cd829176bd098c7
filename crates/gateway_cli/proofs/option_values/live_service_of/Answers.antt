use Rattle.std.proofs.Common.{rules}
use Rattle.gateway_cli.proofs.option_values.live_service_of.Goals as goal

pub returns : goal.returns
returns c = search rules

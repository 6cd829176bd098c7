use Rattle.std.proofs.Common.{rules}
use Rattle.actuator_commands.proofs.packets.meter_query_byte.Goals as goal

pub returns-in-Power : goal.returns-in-Power
returns-in-Power c = search rules

use Rattle.std.proofs.Common.{rules}
use Rattle.actuator_commands.proofs.packets.packet_of.Goals as goal

pub returns-after-on : goal.returns-after-on
returns-after-on c = search rules

pub returns-in-Dim : goal.returns-in-Dim
returns-in-Dim c = search rules

pub returns-in-Teach : goal.returns-in-Teach
returns-in-Teach c = search rules

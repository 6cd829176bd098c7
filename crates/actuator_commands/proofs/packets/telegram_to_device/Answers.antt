use Rattle.std.proofs.Common.{rules}
use Rattle.actuator_commands.proofs.packets.telegram_to_device.Goals as goal

pub returns : goal.returns
returns c = search rules

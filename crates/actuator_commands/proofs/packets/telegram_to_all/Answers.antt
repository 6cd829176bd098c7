use Rattle.std.proofs.Common.{rules}
use Rattle.actuator_commands.proofs.packets.telegram_to_all.Goals as goal

pub returns-then-sender : goal.returns-then-sender
returns-then-sender c = search rules

pub returns : goal.returns
returns c = search rules

use Rattle.actuator_commands.proofs.MessageLemmas.{messages_have_recipients}
use Rattle.actuator_commands.proofs.laws.messages_have_recipients.Goals as goal

pub returns : goal.returns
returns c = messages_have_recipients

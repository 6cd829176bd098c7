-- The recipients of an order are those of its message.
use Rattle.std.proofs.Common.{refl}
use Rattle.desk_orders.specs.declared.orders.Order.TheVariants.{LearnOn, LearnOnAnswer, LearnAs, LearnOff}
use Rattle.desk_orders.specs.declared.orders.Order.TheVariants.{Add, Remove, Label, List as ListAll, Status, Base}
use Rattle.desk_orders.specs.declared.orders.Order.TheVariants.{Switch, Dim, Query, Meter, Blind, Stop}
use Rattle.desk_orders.specs.declared.orders.Order.TheVariants.{Central, Level, Teach}
use Rattle.actuator_commands.specs.Packets.{MessagesHaveRecipients}

pub messages_have_recipients : MessagesHaveRecipients
messages_have_recipients LearnOn = (refl, refl)
messages_have_recipients LearnOnAnswer = (refl, refl)
messages_have_recipients (LearnAs eep) = (refl, refl)
messages_have_recipients LearnOff = (refl, refl)
messages_have_recipients (Add id eep) = (refl, refl)
messages_have_recipients (Remove id) = (refl, refl)
messages_have_recipients (Label id label) = (refl, refl)
messages_have_recipients ListAll = (refl, refl)
messages_have_recipients Status = (refl, refl)
messages_have_recipients Base = (refl, refl)
messages_have_recipients (Switch id channel on) = (refl, refl)
messages_have_recipients (Dim id channel value) = (refl, refl)
messages_have_recipients (Query id channel) = (refl, refl)
messages_have_recipients (Meter id channel quantity) = (refl, refl)
messages_have_recipients (Blind id value) = (refl, refl)
messages_have_recipients (Stop id) = (refl, refl)
messages_have_recipients (Central offset on) = (refl, refl)
messages_have_recipients (Level offset value ramp) = (refl, refl)
messages_have_recipients (Teach offset) = (refl, refl)

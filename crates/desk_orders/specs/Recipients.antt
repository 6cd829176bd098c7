-- The recipients of orders: one device, or all devices that were taught the order's sender. Own choice.
use Rattle.std.specs.Prelude.{ℕ, Bool, true, Option, Some, None, is_some}
use Rattle.desk_orders.specs.declared.orders.Order.{Order}
use Rattle.desk_orders.specs.declared.orders.Order.TheVariants.{Switch, Dim, Query, Meter, Blind, Stop}
use Rattle.desk_orders.specs.declared.orders.Order.TheVariants.{Central, Level, Teach}

-- the device of an order, if it is for one
abbrev pub recipient_id : Order → Option ℕ
recipient_id (Switch id channel on) = Some id
recipient_id (Dim id channel value) = Some id
recipient_id (Query id channel) = Some id
recipient_id (Meter id channel quantity) = Some id
recipient_id (Blind id value) = Some id
recipient_id (Stop id) = Some id
recipient_id order = None

-- whether the order is for devices: for one, or for all that were taught its sender
abbrev pub sends : Order → Bool
sends (Central offset on) = true
sends (Level offset value ramp) = true
sends (Teach offset) = true
sends order = is_some (recipient_id order)

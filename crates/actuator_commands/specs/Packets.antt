-- The radio telegrams of orders to devices (EnOcean Equipment Profiles 2.6). Own choice: the orders.
use Rattle.std.specs.Prelude.{ℕ, ◌+◌, ◌==◌, ◌&&◌, Bool, if◌then◌else◌, List, [], ◌∷◌, Option, Some, None}
use Rattle.std.specs.Prelude.{◌≡◌, Result, Ok, Err, is_some, option_map}
use Rattle.erp1_telegrams.specs.declared.eep.Eep.{Eep}
use Rattle.erp1_telegrams.specs.Telegram.{Telegram}
use Rattle.learned_devices.specs.declared.Device.{Device}
use Rattle.desk_orders.specs.declared.orders.Order.{Order}
use Rattle.desk_orders.specs.declared.orders.Order.TheVariants.{Switch, Dim, Query, Meter, Blind, Stop}
use Rattle.desk_orders.specs.declared.orders.Order.TheVariants.{Central, Level, Teach}
use Rattle.desk_orders.specs.Recipients.{recipient_id, sends}
use Rattle.desk_orders.specs.declared.orders.OrderFault.{OrderFault}
use Rattle.desk_orders.specs.declared.orders.OrderFault.TheVariants.{Range, UnknownDevice, WrongProfile}
use Rattle.desk_orders.specs.declared.orders.Quantity.{Quantity}
use Rattle.desk_orders.specs.declared.orders.Quantity.TheVariants.{Energy, Power}
use Rattle.actuator_commands.specs.declared.packets.ActuatorKind.{ActuatorKind}
use Rattle.actuator_commands.specs.declared.packets.ActuatorKind.TheVariants as actuator

-- the profiles of an actuator: of switches and dimmers ("D2-01", with any TYPE), and of blinds ("D2-05-00")
abbrev pub is_profile_of_actuator : ActuatorKind → Eep → Bool
is_profile_of_actuator actuator.SwitchOrDimmer eep = eep.rorg == 0xD2 && eep.func == 0x01
is_profile_of_actuator actuator.Blind eep = eep.rorg == 0xD2 && eep.func == 0x05 && eep.typ == 0x00

-- The message of an order: to the device with an ID, a payload by the device's profile, or none if that has no such
-- order; or to all, from the sender with this offset from the base ID.
pub data AddressedPayload : Type 0 where
  PayloadToDevice : (id : ℕ) → (payload_of : Eep → Option (List ℕ)) → AddressedPayload
  PayloadToAll : (offset : ℕ) → (payload : List ℕ) → AddressedPayload

-- a payload to these actuators, and none to other devices
abbrev pub payload_for : ActuatorKind → (payload : List ℕ) → Eep → Option (List ℕ)
payload_for actuator payload eep = if is_profile_of_actuator actuator eep then Some payload else None

-- "D2-01", command 3, is followed by the channel; in "D2-05-00", command 3, the high bits of the command's own byte are
-- the channel, which is 0
abbrev pub query_payload : (channel : ℕ) → Eep → Option (List ℕ)
query_payload channel eep =
    if is_profile_of_actuator actuator.SwitchOrDimmer eep then Some (0x03 ∷ channel ∷ [])
    else if is_profile_of_actuator actuator.Blind eep && channel == 0 then Some (0x03 ∷ [])
    else None

-- "D2-01", command 6, has the channel in the low bits; its highest bit asks for power
abbrev pub meter_query_byte : (channel : ℕ) → Quantity → ℕ
meter_query_byte channel Energy = channel
meter_query_byte channel Power = channel + 128

-- The table: the message of each order to devices.
abbrev pub message_of : Order → Option AddressedPayload
-- "D2-01", command 1: the channel, and the value in percent. The bits DV are 0: immediately
message_of (Switch id channel on) =
    Some (PayloadToDevice id (payload_for actuator.SwitchOrDimmer (0x01 ∷ channel ∷ (if on then 0x64 else 0x00) ∷ [])))
message_of (Dim id channel value) =
    Some (PayloadToDevice id (payload_for actuator.SwitchOrDimmer (0x01 ∷ channel ∷ value ∷ [])))
message_of (Query id channel) = Some (PayloadToDevice id (query_payload channel))
-- "D2-01", command 6
message_of (Meter id channel quantity) =
    Some (PayloadToDevice id (payload_for actuator.SwitchOrDimmer (0x06 ∷ meter_query_byte channel quantity ∷ [])))
-- "D2-05-00", command 1: the position in percent; the angle, which 127 leaves unchanged; REPO and LOCK, which are 0;
-- and the channel 0 with the command
message_of (Blind id value) = Some (PayloadToDevice id (payload_for actuator.Blind (value ∷ 0x7F ∷ 0x00 ∷ 0x01 ∷ [])))
-- "D2-05-00", command 2
message_of (Stop id) = Some (PayloadToDevice id (payload_for actuator.Blind (0x02 ∷ [])))
-- "A5-38-08", command 1, without a time: bit 3 of DB0 marks it as data, not teach-in, and bit 0 is on
message_of (Central offset on) = Some (PayloadToAll offset (0x01 ∷ 0x00 ∷ 0x00 ∷ (if on then 0x09 else 0x08) ∷ []))
-- "A5-38-08", command 2: the value and the ramp; bit 2 of DB0 says that the value is in percent, and bit 0 is on. Own
-- choice: it is off for the value 0
message_of (Level offset value ramp) =
    Some (PayloadToAll offset (0x02 ∷ value ∷ ramp ∷ (if value == 0 then 0x0C else 0x0D) ∷ []))
-- "4BS Telegram", variation 2: teach-in of the profile A5-38-08, with the manufacturer ID 7FF, which stands for any
message_of (Teach offset) = Some (PayloadToAll offset (0xE0 ∷ 0x47 ∷ 0xFF ∷ 0x80 ∷ []))
message_of order = None

-- the device of a message, if it is for one
abbrev pub recipient_of : Option AddressedPayload → Option ℕ
recipient_of (Some (PayloadToDevice id payload_of)) = Some id
recipient_of message = None

-- an order is for the device of its message, and is for devices if it has a message
abbrev pub MessagesHaveRecipients : Type 0
MessagesHaveRecipients =
    (order : Order) → (recipient_id order ≡ recipient_of (message_of order)) × (sends order ≡ is_some (message_of order))

-- A message to one is a VLD telegram from the base ID, and one to all a 4BS telegram from the base ID and its offset.
-- No sender has the broadcast ID (EnOcean Serial Protocol 3, "Packet type 1: RADIO_ERP1").
abbrev pub telegram_to_one : (base id : ℕ) → Option (List ℕ) → Result Telegram OrderFault
telegram_to_one base id (Some payload) =
    Ok (record { rorg = 0xD2; payload = payload; sender = base; status = 0; dest = id; dbm = None })
telegram_to_one base id None = Err WrongProfile

abbrev pub four_bs_to_all : (base offset : ℕ) (payload : List ℕ) → Result Telegram OrderFault
four_bs_to_all base offset payload =
    if base + offset == 0xFFFF_FFFF then Err Range
    else Ok (record {
      rorg = 0xA5;
      payload = payload;
      sender = base + offset;
      status = 0;
      dest = 0xFFFF_FFFF;
      dbm = None;
    })

abbrev pub telegram_for : AddressedPayload → Option Device → (base : ℕ) → Result Telegram OrderFault
telegram_for (PayloadToDevice id payload_of) None base = Err UnknownDevice
telegram_for (PayloadToDevice id payload_of) (Some device) base = telegram_to_one base id (payload_of device.eep)
telegram_for (PayloadToAll offset payload) device base = four_bs_to_all base offset payload

-- the telegram of an order to devices, or why there is none, given its device, if learned, and this base ID
abbrev pub order_telegram : Order → Option Device → (base : ℕ) → Option (Result Telegram OrderFault)
order_telegram order device base = option_map (λ message. telegram_for message device base) (message_of order)

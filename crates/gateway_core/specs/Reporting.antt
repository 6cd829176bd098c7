-- Reports: the meaning of a teach line, the answer to a `label` order, and the reasons for bytes sent by radio.
use Rattle.std.specs.Prelude.{◌≡◌, ◌⊎◌, ◌≤◌, ℕ, true, IsSome, length, List, Some, None, Ok}
use Rattle.esp3_frames.specs.Packet.{Packet, spelling}
use Rattle.erp1_telegrams.specs.Telegram.{Telegram, telegram_of, radio_packet}
use Rattle.learned_devices.specs.declared.Device.{Device}
use Rattle.learned_devices.specs.Devices.{DeviceUpdate, device_of, learn_update, forget_update, relabel_update}
use Rattle.teach_in.specs.declared.four_byte.FourByteQuery.{FourByteQuery}
use Rattle.teach_in.specs.declared.mode.Mode.TheVariants.{Learn, LearnAnswer}
use Rattle.teach_in.specs.declared.outcome.Outcome.{Outcome}
use Rattle.teach_in.specs.declared.outcome.Outcome.TheVariants.{Accepted, Deleted}
use Rattle.teach_in.specs.declared.telegrams.Teach.TheVariants.{FourByte, Ute}
use Rattle.teach_in.specs.declared.ute.UteQuery.{UteQuery}
use Rattle.teach_in.specs.FourByte.{four_byte_reply}
use Rattle.teach_in.specs.Telegrams.{teach_in_of}
use Rattle.teach_in.specs.Ute.{wants_reply, request_in, deletion_request, ute_reply}
use Rattle.desk_orders.specs.Limits.{max_line}
use Rattle.desk_orders.specs.declared.orders.Order.{Order}
use Rattle.desk_orders.specs.declared.orders.Order.TheVariants.{Base, Label}
use Rattle.desk_orders.specs.declared.orders.OrderFault.TheVariants.{UnknownDevice}
use Rattle.desk_orders.specs.Orders.{order_of}
use Rattle.desk_orders.specs.Recipients.{recipient_id}
use Rattle.actuator_commands.specs.Packets.{order_telegram}
use Rattle.gateway_state.specs.declared.error_reason.ErrorReason.TheVariants.{Order as OrderError}
use Rattle.json_lines.specs.Lines.{TeachLine, Teach, Done, Error, text}
use Rattle.gateway_core.specs.Step.{State, Input, Received, Ordered, Effect, effect, device_teach_line}
use Rattle.gateway_core.specs.Step.{answer_to_applied_input, update_of, base_id_request, recipient_device}
use Rattle.gateway_core.specs.Run.{InputResult, Applied, answer_for_result}

-- A device that is reported as deleted: as stored if the desk ordered it; over the air with the profile and maker of
-- its query, learned or not.
abbrev pub IsDeviceOfDeletedLine : State → Input → Device → Type 0
IsDeviceOfDeletedLine state (Ordered line) known = device_of state.devices known.id ≡ Some known
IsDeviceOfDeletedLine state (Received packet) known =
    (t : Telegram) × (telegram_of packet ≡ Ok t) × (known.id ≡ t.sender)
    × (query : UteQuery) × (teach_in_of t ≡ Ute query) × (request_in query ≡ deletion_request)
    × (known.eep ≡ query.eep) × (known.maker ≡ Some query.maker)

-- What a line with this outcome reports of an effect: it learns a device, forgets one for which this holds, or changes
-- neither the devices nor the mode.
abbrev pub OutcomeMatchesUpdate : (MayBeDeleted : Device → Type 0) → Effect → TeachLine → Outcome → Type 0
OutcomeMatchesUpdate Gone e line Accepted =
    (known : Device) × (text (Teach line) ≡ text (Teach (device_teach_line known Accepted)))
    × (e.update ≡ Some (learn_update known))
OutcomeMatchesUpdate Gone e line Deleted =
    (known : Device) × (text (Teach line) ≡ text (Teach (device_teach_line known Deleted)))
    × Gone known × (e.update ≡ Some (forget_update known.id))
OutcomeMatchesUpdate Gone e line outcome = (e.update ≡ None) × (e.mode ≡ None)

-- the update of this device that a line with `accepted` or `deleted` reports
abbrev pub accepted_or_deleted_update : Outcome → Device → DeviceUpdate
accepted_or_deleted_update Accepted known = learn_update known
accepted_or_deleted_update outcome known = forget_update known.id

-- only an applied input is answered with a teach line, which reports what it does
abbrev pub TeachLinesAreTrue : Type 0
TeachLinesAreTrue = (state : State) (input : Input) (result : InputResult) (line : TeachLine)
    → (answer_for_result state input result).desk ≡ text (Teach line)
    → (result ≡ Applied) × OutcomeMatchesUpdate (IsDeviceOfDeletedLine state input)
    (effect state input) line line.outcome

-- The input is a line that labels a learned device, this is the update, and the desk receives `ok`.
pub record AcknowledgesLabel (state : State) (input : Input) (update : DeviceUpdate) : Type 0 where
  pub line : List ℕ
  pub ordered : input ≡ Ordered line
  pub id : ℕ
  pub label : List ℕ
  pub spelled : order_of line ≡ Ok (Label id label)
  pub is_known : IsSome (device_of state.devices id)
  pub gives : update ≡ relabel_update id label
  pub reported : (answer_to_applied_input state input).desk ≡ text Done

-- and an applied input that asks for an update is answered with the line that reports it, or with `ok` if it sets a
-- label
abbrev pub UpdatesAreReported : Type 0
UpdatesAreReported = (state : State) (input : Input) (update : DeviceUpdate) → update_of state input ≡ Some update
    → ((line : TeachLine) × ((answer_for_result state input Applied).desk ≡ text (Teach line))
    × OutcomeMatchesUpdate (IsDeviceOfDeletedLine state input) (effect state input) line line.outcome)
    ⊎ AcknowledgesLabel state input update

-- A line that spells a label and is answered `ok` is applied and labels a learned device; one answered `unknown_device`
-- is applied and changes nothing, and no device with its ID is learned. Each that is applied and not too long gets one
-- of these answers.
pub record LabelAnswersAreTrue (state : State) (line : List ℕ) (id : ℕ) (label : List ℕ) : Type 0 where
  pub done : (result : InputResult) → (answer_for_result state (Ordered line) result).desk ≡ text Done
      → (result ≡ Applied) × IsSome (device_of state.devices id)
      × (update_of state (Ordered line) ≡ Some (relabel_update id label))
  pub unknown : (result : InputResult) → (answer_for_result state (Ordered line) result).desk
      ≡ text (Error (OrderError UnknownDevice))
      → (result ≡ Applied) × (device_of state.devices id ≡ None) × (update_of state (Ordered line) ≡ None)
  pub answers : length line ≤ max_line
      → ((answer_to_applied_input state (Ordered line)).desk ≡ text Done)
      ⊎ ((answer_to_applied_input state (Ordered line)).desk ≡ text (Error (OrderError UnknownDevice)))

abbrev pub AnswersToLabelsAreTrue : Type 0
AnswersToLabelsAreTrue = (state : State) (line : List ℕ) (id : ℕ) (label : List ℕ) → order_of line ≡ Ok (Label id label)
    → LabelAnswersAreTrue state line id label

-- the telegram that replies to a query with this outcome for its sender, in a window for all senders: to a 4BS query in
-- the mode `LearnAnswer`, and to a UTE query that waits for a reply
abbrev pub IsReplyTelegram : State → (t : Telegram) → Outcome → (reply : Telegram) → Type 0
IsReplyTelegram state t outcome reply =
    ((query : FourByteQuery) × (teach_in_of t ≡ FourByte query) × (state.mode ≡ LearnAnswer)
    × (four_byte_reply query outcome state.base ≡ Some reply))
    ⊎ ((query : UteQuery) × (teach_in_of t ≡ Ute query) × (wants_reply query ≡ true)
    × ((state.mode ≡ Learn) ⊎ (state.mode ≡ LearnAnswer))
    × (ute_reply query outcome state.base ≡ Some reply))

-- The bytes are the reply to the packet's query: the desk receives the query's teach line, and the reply has the
-- outcome of that line.
pub record RepliesTo (state : State) (input : Input) (bytes : List ℕ) : Type 0 where
  pub packet : Packet
  pub received : input ≡ Received packet
  pub telegram : Telegram
  pub carried : telegram_of packet ≡ Ok telegram
  pub line : TeachLine
  pub reported : (answer_to_applied_input state input).desk ≡ text (Teach line)
  pub reply : Telegram
  pub says : IsReplyTelegram state telegram line.outcome reply
  pub bytes_are : bytes ≡ spelling (radio_packet reply)

-- the packet that an order sends: the request for the base ID, or the order's telegram
abbrev pub IsSentByOrder : State → Order → Packet → Type 0
IsSentByOrder state order packet =
    ((order ≡ Base) × (packet ≡ base_id_request))
    ⊎ ((t : Telegram) × (packet ≡ radio_packet t)
    × (order_telegram order (recipient_device state.devices (recipient_id order)) state.base ≡ Some (Ok t)))

-- The bytes are the packet of an order that a line spells, and the desk receives `ok`.
pub record SendsAsOrdered (state : State) (input : Input) (bytes : List ℕ) : Type 0 where
  pub line : List ℕ
  pub ordered : input ≡ Ordered line
  pub order : Order
  pub spelled : order_of line ≡ Ok order
  pub reported : (answer_to_applied_input state input).desk ≡ text Done
  pub packet : Packet
  pub is_packet : IsSentByOrder state order packet
  pub bytes_are : bytes ≡ spelling packet

-- only an applied input sends bytes by radio, as a reply or as the desk has ordered
abbrev pub RadioIsReplyOrOrdered : Type 0
RadioIsReplyOrOrdered = (state : State) (input : Input) (result : InputResult) (bytes : List ℕ)
    → (answer_for_result state input result).radio ≡ Some bytes
    → (result ≡ Applied) × (RepliesTo state input bytes ⊎ SendsAsOrdered state input bytes)

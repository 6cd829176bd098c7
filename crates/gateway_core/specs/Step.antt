-- One input: its effect, and so its answer and the next state.
use Rattle.std.specs.Prelude.{ℕ, Bool, true, false, nat_lt, length, if◌then◌else◌, List, [], ◌∷◌, Option, Some, None}
use Rattle.std.specs.Prelude.{option_map, is_some, unwrap_or, Result, Ok, Err}
use Rattle.esp3_frames.specs.Packet.{Packet, spelling}
use Rattle.erp1_telegrams.specs.declared.eep.Eep.{Eep}
use Rattle.erp1_telegrams.specs.declared.telegram.TelegramFault.{TelegramFault}
use Rattle.erp1_telegrams.specs.Address.{filter_reason, is_filtered_out}
use Rattle.erp1_telegrams.specs.Telegram.{Telegram, telegram_of, radio_packet}
use Rattle.profile_rows.specs.Reading.{Entry}
use Rattle.profile_rows.specs.declared.unreadable.Unreadable.{Unreadable}
use Rattle.learned_devices.specs.declared.Device.{Device}
use Rattle.learned_devices.specs.Devices.{Devices, device_of, devices_by_ascending_id, is_full_for, DeviceUpdate}
use Rattle.learned_devices.specs.Devices.{apply_update, learn_update, forget_update, relabel_update}
use Rattle.teach_in.specs.declared.mode.Mode.{Mode}
use Rattle.teach_in.specs.declared.mode.Mode.TheVariants.{Closed, Learn, LearnAnswer, LearnAs}
use Rattle.teach_in.specs.declared.outcome.Outcome.{Outcome}
use Rattle.teach_in.specs.declared.outcome.Outcome.TheVariants.{Accepted, Deleted}
use Rattle.teach_in.specs.declared.outcome.Outcome.TheVariants as outcome
use Rattle.teach_in.specs.declared.plans.Plan.{Plan}
use Rattle.teach_in.specs.declared.plans.Plan.TheVariants.{Silent, Add, Forget, Refuse}
use Rattle.teach_in.specs.declared.telegrams.Teach.{Teach}
use Rattle.teach_in.specs.declared.telegrams.Teach.TheVariants as teach
use Rattle.teach_in.specs.FourByte.{four_byte_reply}
use Rattle.teach_in.specs.Ute.{ute_reply, wants_reply}
use Rattle.teach_in.specs.Profiles.{supported}
use Rattle.teach_in.specs.Telegrams.{teach_in_of}
use Rattle.teach_in.specs.Plans.{plan_of}
use Rattle.desk_orders.specs.declared.orders.Order.{Order}
use Rattle.desk_orders.specs.declared.orders.Order.TheVariants.{LearnOn, LearnOnAnswer, LearnOff, Remove, Label}
use Rattle.desk_orders.specs.declared.orders.Order.TheVariants.{List as ListAll, Status, Base}
use Rattle.desk_orders.specs.declared.orders.Order.TheVariants as order
use Rattle.desk_orders.specs.declared.orders.OrderFault.{OrderFault}
use Rattle.desk_orders.specs.declared.orders.OrderFault.TheVariants.{UnknownDevice}
use Rattle.desk_orders.specs.Limits.{max_line}
use Rattle.desk_orders.specs.Orders.{order_of}
use Rattle.desk_orders.specs.Recipients.{recipient_id}
use Rattle.actuator_commands.specs.Packets.{order_telegram}
use Rattle.gateway_state.specs.declared.counts.Counter.{Counter}
use Rattle.gateway_state.specs.declared.counts.Counts.{Counts}
use Rattle.gateway_state.specs.declared.error_reason.ErrorReason.{ErrorReason}
use Rattle.gateway_state.specs.declared.error_reason.ErrorReason.TheVariants as error
use Rattle.gateway_state.specs.Counts.{increment_if_any}
use Rattle.json_lines.specs.declared.packet.PacketLine.{PacketLine}
use Rattle.gateway_state.specs.declared.handling_reason.HandlingReason.{HandlingReason}
use Rattle.gateway_state.specs.declared.handling_reason.HandlingReason.TheVariants as why
use Rattle.json_lines.specs.Lines.{DeskLine, Reading, Teach as TeachOf, StatusLine, ResponseLine, Done, Error}
use Rattle.json_lines.specs.Lines.{TeachLine, ModuleResponse, list_lines, texts}
use Rattle.gateway_core.specs.declared.disposition.Disposition.{Disposition}
use Rattle.gateway_core.specs.Dispositions.{without_device, counter_for, eep_in_query, packet_text_if_any}
use Rattle.gateway_core.specs.Dispositions.{packet_line_of, maker_in_query, for_device, why_nothing_done}
use Rattle.gateway_core.specs.Dispositions.{why_no_telegram_or_response, why_unread}
use Rattle.gateway_core.specs.Profiles.{read_by}
use Rattle.gateway_core.specs.Responses.{response_in}

-- the state of a gateway: the base ID of its radio module, which never changes, the learn mode, the counters, and the
-- learned devices
pub record State : Type 0 where
  pub base : ℕ
  pub mode : Mode
  pub counts : Counts
  pub devices : Devices

-- an input: a packet of the serial line, or a line of the desk
pub data Input : Type 0 where
  Received : (packet : Packet) → Input
  Ordered : (line : List ℕ) → Input

-- why an input fails: out of memory, or an error of the device store
pub data Cause : Type 0 where
  Memory : Cause
  Store : Cause

-- the needs of an input that can fail: none, only memory, or the device store, which needs memory too
pub data Need : Type 0 where
  NeedsNothing : Need
  NeedsMemory : Need
  NeedsStore : Need

-- the causes for which such an input may fail
abbrev pub MayFailFor : Need → Cause → Type 0
MayFailFor NeedsStore cause = Unit {0}
MayFailFor NeedsMemory Memory = Unit {0}
MayFailFor need cause = ⊥

-- the effect of an applied input: the bytes to send by radio, the lines for the desk, the disposition of a packet, the
-- update of the devices, the mode that it sets, and what it needs
pub record Effect : Type 0 where
  pub radio : Option (List ℕ)
  pub desk : List DeskLine
  pub disposition : Option Disposition
  pub update : Option DeviceUpdate
  pub mode : Option Mode
  pub need : Need

-- no effect
abbrev pub no_effect : Effect
no_effect = record { radio = None; desk = []; disposition = None; update = None; mode = None; need = NeedsNothing }

-- the effect of a device that is to be learned: the first if the maximum number of others is learned, otherwise the
-- second
abbrev pub if_full_of_others_else : Devices → Device → (full done : Effect) → Effect
if_full_of_others_else devices known full done = if is_full_for devices known.id then full else done

-- the line that reports the outcome for a device
abbrev pub device_teach_line : Device → Outcome → TeachLine
device_teach_line known outcome = record { eep = Some known.eep; id = known.id; maker = known.maker; outcome = outcome }

-- ---- a packet

-- the need, by whether the device store is asked
abbrev pub needs_store_if : (asks_store : Bool) → Need
needs_store_if asks_store = if asks_store then NeedsStore else NeedsNothing

-- A packet without a line for the desk. The device store was asked for its sender, or not.
abbrev pub silent_effect : (asks_store : Bool) → Disposition → Effect
silent_effect asks_store disposition =
    record no_effect { disposition = Some disposition; need = needs_store_if asks_store }

-- it is ignored, for this reason
abbrev pub ignored_effect : HandlingReason → Effect
ignored_effect why = silent_effect false (without_device why)

-- one line for the desk about a packet
abbrev pub packet_desk_line_effect : Need → Disposition → DeskLine → Effect
packet_desk_line_effect need disposition line =
    record no_effect { desk = line ∷ []; disposition = Some disposition; need = need }

-- the kind of a telegram: the first of these five cases. Own choice
pub data TelegramCase : Type 0 where
  -- its sender or destination is filtered out
  FilteredOut : TelegramCase
  -- it is a teach-in reply
  TeachInAnswer : TelegramCase
  -- it is a teach-in telegram
  TeachInTelegram : TelegramCase
  -- it is data of a learned sender
  LearnedData : (known : Device) → TelegramCase
  -- it is data of a sender that is not learned
  UnknownData : TelegramCase

abbrev pub data_case : Option Device → TelegramCase
data_case (Some known) = LearnedData known
data_case None = UnknownData

abbrev pub case_by_role : Teach → Option Device → TelegramCase
case_by_role teach.Answer known = TeachInAnswer
case_by_role teach.Contact known = TeachInTelegram
case_by_role teach.Bare known = TeachInTelegram
case_by_role (teach.FourByte query) known = TeachInTelegram
case_by_role (teach.Ute query) known = TeachInTelegram
case_by_role teach.Plain known = data_case known

abbrev pub case_of : State → Telegram → TelegramCase
case_of state t =
    if is_filtered_out state.base t then FilteredOut else case_by_role (teach_in_of t)
    (device_of state.devices t.sender)

-- the reading line for a telegram of this device, if its profile can read it
abbrev pub reading_effect : Telegram → Device → Result (List Entry) Unreadable → Effect
reading_effect t known (Err fault) = silent_effect true (for_device known (why_unread fault))
reading_effect t known (Ok readings) =
    packet_desk_line_effect NeedsStore (for_device known why.Read)
    (Reading (record { dbm = t.dbm; eep = known.eep; id = t.sender; readings = readings }))

-- the reply by radio for this outcome of a telegram's sender: to a UTE query that waits for one, and to a 4BS query in
-- the mode `LearnAnswer`. For 4BS, the mode is own choice
abbrev pub reply_telegram_of : (base : ℕ) → Mode → Teach → Outcome → Option Telegram
reply_telegram_of base mode (teach.Ute query) outcome = if wants_reply query then ute_reply query outcome base else None
reply_telegram_of base LearnAnswer (teach.FourByte query) outcome = four_byte_reply query outcome base
reply_telegram_of base mode kind outcome = None

-- the bytes of the packet in which a telegram is sent, if there is one
abbrev pub radio_bytes_of : Option Telegram → Option (List ℕ)
radio_bytes_of = option_map (λ t. spelling (radio_packet t))

-- the outcome for a telegram's sender, for which the device store was asked: reported to the desk, and replied to the
-- sender
abbrev pub teach_report_effect : State → Teach → TeachLine → Effect
teach_report_effect state kind line =
    record (packet_desk_line_effect NeedsStore (without_device (why.TeachIn line.outcome)) (TeachOf line)) {
      radio = radio_bytes_of (reply_telegram_of state.base state.mode kind line.outcome);
    }

-- the mode that is set when a sender is learned: a window for one sender closes. Own choice
abbrev pub mode_set_by_learning : Mode → Option Mode
mode_set_by_learning (LearnAs eep) = Some Closed
mode_set_by_learning mode = None

-- the sender is learned
abbrev pub accept_effect : State → Teach → Device → Effect
accept_effect state kind known =
    record (teach_report_effect state kind (device_teach_line known Accepted)) {
      disposition = Some (for_device known (why.TeachIn Accepted));
      update = Some (learn_update known);
      mode = mode_set_by_learning state.mode;
    }

-- the line with the outcome for a sender that this telegram does not teach in, with the profile and maker of its query,
-- if any
abbrev pub query_teach_line : (id : ℕ) → Teach → Outcome → TeachLine
query_teach_line id kind outcome =
    record { eep = eep_in_query kind; id = id; maker = maker_in_query kind; outcome = outcome }

-- the sender is forgotten, whether it is learned or not
abbrev pub delete_effect : State → Teach → (id : ℕ) → Effect
delete_effect state kind id =
    record (teach_report_effect state kind (query_teach_line id kind Deleted)) { update = Some (forget_update id) }

-- the effect of the plan for the sender of a telegram, for which the device store was asked or not
abbrev pub plan_effect : State → Telegram → (asks_store : Bool) → Plan → Effect
plan_effect state t asks_store Silent =
    silent_effect asks_store (without_device (why_nothing_done asks_store state.mode))
plan_effect state t asks_store (Add known) =
    if_full_of_others_else state.devices known
    (teach_report_effect state (teach_in_of t) (device_teach_line known outcome.Full))
    (accept_effect state (teach_in_of t) known)
plan_effect state t asks_store (Forget id) = delete_effect state (teach_in_of t) id
plan_effect state t asks_store (Refuse outcome) =
    record (teach_report_effect state (teach_in_of t) (query_teach_line t.sender (teach_in_of t) outcome)) {
      need = if asks_store then NeedsStore else NeedsMemory;
    }

-- whether a sender is learned
abbrev pub is_learned : Devices → (id : ℕ) → Bool
is_learned devices id = is_some (device_of devices id)

abbrev pub case_effect : State → Telegram → TelegramCase → Effect
case_effect state t FilteredOut = ignored_effect (why.FilteredOut (filter_reason t))
case_effect state t TeachInAnswer = ignored_effect why.TeachInReply
case_effect state t TeachInTelegram =
    plan_effect state t false (plan_of t state.mode (is_learned state.devices t.sender))
case_effect state t (LearnedData known) = reading_effect t known (read_by known.eep t)
case_effect state t UnknownData = plan_effect state t true (plan_of t state.mode false)

abbrev pub telegram_effect : State → Telegram → Effect
telegram_effect state t = case_effect state t (case_of state t)

-- a packet without a telegram is a response, or is ignored. Own choice
abbrev pub non_telegram_effect : Packet → Option ModuleResponse → Effect
non_telegram_effect packet None = ignored_effect (why_no_telegram_or_response packet)
non_telegram_effect packet (Some response) =
    packet_desk_line_effect NeedsMemory (without_device why.Response) (ResponseLine response)

abbrev pub packet_effect_from : State → Packet → Result Telegram TelegramFault → Effect
packet_effect_from state packet (Ok t) = telegram_effect state t
packet_effect_from state packet (Err fault) = non_telegram_effect packet (response_in packet)

abbrev pub packet_effect : State → Packet → Effect
packet_effect state packet = packet_effect_from state packet (telegram_of packet)

-- ---- a line

-- the only effect is an error line
abbrev pub error_effect : ErrorReason → Effect
error_effect reason = record no_effect { desk = Error reason ∷ [] }

-- a packet is sent; the device store was asked for a device, or not
abbrev pub send_effect : (asks_store : Bool) (bytes : List ℕ) → Effect
send_effect asks_store bytes =
    record no_effect { radio = Some bytes; desk = Done ∷ []; need = needs_store_if asks_store }

-- the mode is set
abbrev pub mode_effect : Mode → Effect
mode_effect mode = record no_effect { desk = Done ∷ []; mode = Some mode }

-- the only effect is some lines for the desk
abbrev pub lines_effect : Need → List DeskLine → Effect
lines_effect need lines = record no_effect { desk = lines; need = need }

-- a device that the desk names is learned, forgotten or labelled
abbrev pub ordered_learn_effect : Device → Effect
ordered_learn_effect known = record (lines_effect NeedsStore (TeachOf (device_teach_line known Accepted) ∷ []))
    { update = Some (learn_update known) }

abbrev pub ordered_forget_effect : Device → Effect
ordered_forget_effect known = record (lines_effect NeedsStore (TeachOf (device_teach_line known Deleted) ∷ []))
    { update = Some (forget_update known.id) }

abbrev pub relabel_effect : (id : ℕ) (label : List ℕ) → Effect
relabel_effect id label = record (lines_effect NeedsStore (Done ∷ [])) { update = Some (relabel_update id label) }

-- the effect of an order about a device that has to be learned
abbrev pub if_learned_else_error : Option Device → (Device → Effect) → Effect
if_learned_else_error None effect_of = lines_effect NeedsStore (Error (error.Order UnknownDevice) ∷ [])
if_learned_else_error (Some known) effect_of = effect_of known

-- the effect of an order with a profile, if that is supported
abbrev pub if_supported_else_error : Eep → Effect → Effect
if_supported_else_error eep effect = if supported eep then effect else error_effect error.UnsupportedProfile

-- The effect of an order to devices: its telegram is sent, or an error reports why there is none. The last case is that
-- of no order to devices, since each of these has a telegram or a fault.
abbrev pub send_result_effect : (asks_store : Bool) → Option (Result Telegram OrderFault) → Effect
send_result_effect asks_store (Some (Ok t)) = send_effect asks_store (spelling (radio_packet t))
send_result_effect asks_store (Some (Err fault)) =
    record (error_effect (error.Order fault)) { need = needs_store_if asks_store }
send_result_effect asks_store None = record no_effect { need = needs_store_if asks_store }

-- the stored device of an order
abbrev pub recipient_device : Devices → Option ℕ → Option Device
recipient_device devices None = None
recipient_device devices (Some id) = device_of devices id

abbrev pub sending_order_effect : State → Order → Effect
sending_order_effect state order =
    send_result_effect (is_some (recipient_id order))
    (order_telegram order (recipient_device state.devices (recipient_id order)) state.base)

-- the packet that asks the radio module for its base ID (EnOcean Serial Protocol 3, "CO_RD_IDBASE")
abbrev pub base_id_request : Packet
base_id_request = record { kind = 5; body = 0x08 ∷ []; opt = [] }

-- Own choice: the first error of these is reported: too long, syntax and range, which `order_of` finds, an unsupported
-- profile, an unknown device, a wrong profile, a full registry.
abbrev pub order_effect : State → Result Order OrderFault → Effect
order_effect state (Err fault) = error_effect (error.Order fault)
order_effect state (Ok LearnOn) = mode_effect Learn
order_effect state (Ok LearnOnAnswer) = mode_effect LearnAnswer
order_effect state (Ok (order.LearnAs eep)) = if_supported_else_error eep (mode_effect (LearnAs eep))
order_effect state (Ok LearnOff) = mode_effect Closed
order_effect state (Ok (order.Add id eep)) =
    let known : Device = record { id = id; eep = eep; maker = None; label = [] } in
    if_supported_else_error eep
    (if_full_of_others_else state.devices known (lines_effect NeedsStore (Error error.Full ∷ []))
    (ordered_learn_effect known))
order_effect state (Ok (Remove id)) = if_learned_else_error (device_of state.devices id) ordered_forget_effect
order_effect state (Ok (Label id label)) =
    if_learned_else_error (device_of state.devices id) (λ known. relabel_effect id label)
order_effect state (Ok ListAll) = lines_effect NeedsStore (list_lines (devices_by_ascending_id state.devices))
order_effect state (Ok Status) = lines_effect NeedsMemory (StatusLine state.counts state.mode ∷ [])
order_effect state (Ok Base) = send_effect false (spelling base_id_request)
order_effect state (Ok order) = sending_order_effect state order

abbrev pub line_effect : State → (line : List ℕ) → Effect
line_effect state line =
    if nat_lt max_line (length line) then error_effect error.TooLong else order_effect state (order_of line)

-- ---- an input

abbrev pub effect : State → Input → Effect
effect state (Received packet) = packet_effect state packet
effect state (Ordered line) = line_effect state line

-- the bytes to send by radio, if any, the line that explains a packet, and the text for the desk
pub record Answer : Type 0 where
  pub radio : Option (List ℕ)
  pub explanation : List ℕ
  pub desk : List ℕ

-- the answer to an input that is no packet, or to a packet before it is explained
abbrev pub text_answer : (text : List ℕ) → Answer
text_answer text = record { radio = None; explanation = []; desk = text }

abbrev pub unexplained_answer : Effect → Answer
unexplained_answer effect = record { radio = effect.radio; explanation = []; desk = texts effect.desk }

-- the line that explains an input, by its disposition: a packet has one, an order has none
abbrev pub packet_line_for : Input → Option Disposition → Option PacketLine
packet_line_for (Received packet) disposition = option_map (packet_line_of packet) disposition
packet_line_for (Ordered line) disposition = None

-- the answer with this text, or with this line, as its explanation
abbrev pub with_explanation : (text : List ℕ) → Answer → Answer
with_explanation text answer = record answer { explanation = text }

abbrev pub with_packet_line : Option PacketLine → Answer → Answer
with_packet_line line = with_explanation (packet_text_if_any line)

-- the answer to an applied input
abbrev pub answer_to_applied_input : State → Input → Answer
answer_to_applied_input state input =
    with_packet_line (packet_line_for input (effect state input).disposition) (unexplained_answer (effect state input))

-- the counter that a disposition increments
abbrev pub counter_in : Option Disposition → Option Counter
counter_in = option_map (λ disposition. counter_for disposition.why)

-- the counter that an applied input increments: each packet increments one, an order none. Own choice
abbrev pub counter_for_applied_input : State → Input → Option Counter
counter_for_applied_input state input = counter_in (effect state input).disposition

-- the update that an input asks for: of one sender
abbrev pub update_of : State → Input → Option DeviceUpdate
update_of state input = (effect state input).update

-- the mode that an input sets, if it sets one
abbrev pub new_mode_of : State → Input → Option Mode
new_mode_of state input = (effect state input).mode

-- what an input needs that can fail
abbrev pub need_of_memory_or_store : State → Input → Need
need_of_memory_or_store state input = (effect state input).need

abbrev pub with_update : Devices → Option DeviceUpdate → Devices
with_update devices None = devices
with_update devices (Some update) = apply_update devices update

-- the mode after an input that may set one
abbrev pub with_mode : Mode → Option Mode → Mode
with_mode mode set = unwrap_or set mode

-- the state after an applied input
abbrev pub state_after_applied_input : State → Input → State
state_after_applied_input state input =
    record {
      base = state.base;
      mode = with_mode state.mode (new_mode_of state input);
      counts = increment_if_any state.counts (counter_for_applied_input state input);
      devices = with_update state.devices (update_of state input);
    }

-- Properties of the effects of all inputs.
use Rattle.std.proofs.Common.{◌≡◌, ◌≢◌, ◌⊎◌, inl, inr, ℕ, Bool, true, false, List, [], ◌∷◌, Option, Some, None, refl}
use Rattle.std.proofs.Common.{ap, IsSome, arith, ◌∙◌}
use Rattle.std.specs.Prelude.{Result, Ok, Err, nat_lt, length, if◌then◌else◌, is_some}
use Rattle.esp3_frames.specs.Packet.{Packet, spelling}
use Rattle.erp1_telegrams.specs.declared.eep.Eep.{Eep}
use Rattle.erp1_telegrams.specs.declared.telegram.TelegramFault.{TelegramFault}
use Rattle.erp1_telegrams.specs.Telegram.{Telegram, telegram_of, radio_packet}
use Rattle.profile_rows.specs.Reading.{Entry}
use Rattle.profile_rows.specs.declared.unreadable.Unreadable.{Unreadable}
use Rattle.learned_devices.specs.declared.Device.{Device}
use Rattle.learned_devices.specs.Devices.{device_of, devices_by_ascending_id, is_full_for, Devices}
use Rattle.teach_in.specs.declared.four_byte.FourByteQuery.{FourByteQuery}
use Rattle.teach_in.specs.declared.ute.UteQuery.{UteQuery}
use Rattle.teach_in.specs.declared.mode.Mode.{Mode}
use Rattle.teach_in.specs.declared.mode.Mode.TheVariants as mode
use Rattle.teach_in.specs.declared.outcome.Outcome.{Outcome}
use Rattle.teach_in.specs.declared.outcome.Outcome.TheVariants.{Accepted, Deleted}
use Rattle.teach_in.specs.declared.telegrams.Teach.{Teach}
use Rattle.teach_in.specs.declared.telegrams.Teach.TheVariants as teach
use Rattle.teach_in.specs.Profiles.{supported}
use Rattle.teach_in.specs.Telegrams.{teach_in_of}
use Rattle.teach_in.specs.Plans.{add, plan_of}
use Rattle.teach_in.proofs.ForCallers.{either, LearnsByTeachIn, Hears, AsksDeletion, Refuses, of_plan}
use Rattle.gateway_state.specs.declared.counts.Counter.TheVariants as count
use Rattle.gateway_state.specs.declared.handling_reason.HandlingReason.TheVariants as why
use Rattle.gateway_state.specs.declared.error_reason.ErrorReason.{ErrorReason}
use Rattle.gateway_state.specs.declared.error_reason.ErrorReason.TheVariants as error
use Rattle.desk_orders.specs.Limits.{max_line}
use Rattle.desk_orders.specs.declared.orders.Order.{Order}
use Rattle.desk_orders.specs.declared.orders.Order.TheVariants.{LearnOn, LearnOnAnswer, LearnOff, Add, Remove, LearnAs}
use Rattle.desk_orders.specs.declared.orders.Order.TheVariants.{Label, List as ListAll, Status, Base}
use Rattle.desk_orders.specs.declared.orders.OrderFault.{OrderFault}
use Rattle.desk_orders.specs.declared.orders.OrderFault.TheVariants.{UnknownDevice}
use Rattle.desk_orders.specs.Recipients.{sends, recipient_id}
use Rattle.desk_orders.specs.Orders.{order_of}
use Rattle.json_lines.specs.Lines.{Reading, ResponseLine, Error, ReadingLine, TeachLine, ModuleResponse, list_lines}
use Rattle.json_lines.specs.Lines.{Teach as TeachOf, DeskLine}
use Rattle.gateway_core.specs.declared.disposition.Disposition.{Disposition}
use Rattle.gateway_core.specs.Dispositions.{without_device, counter_for, for_device, why_nothing_done}
use Rattle.gateway_core.specs.Dispositions.{why_no_telegram_or_response, why_unread}
use Rattle.gateway_core.specs.Profiles.{read_by}
use Rattle.gateway_core.specs.Responses.{response_in}
use Rattle.gateway_core.specs.Step.{State, Input, Received, Ordered, Effect, silent_effect, Need, NeedsMemory}
use Rattle.gateway_core.specs.Step.{NeedsStore, packet_desk_line_effect, send_effect, send_result_effect}
use Rattle.gateway_core.specs.Step.{sending_order_effect, lines_effect, mode_effect, ordered_learn_effect}
use Rattle.gateway_core.specs.Step.{ordered_forget_effect, relabel_effect, teach_report_effect, accept_effect}
use Rattle.gateway_core.specs.Step.{delete_effect, query_teach_line, plan_effect, FilteredOut, TeachInTelegram}
use Rattle.gateway_core.specs.Step.{case_by_role, reading_effect, case_effect, packet_effect, line_effect}
use Rattle.gateway_core.specs.Step.{packet_effect_from, non_telegram_effect, if_learned_else_error}
use Rattle.gateway_core.specs.Step.{if_supported_else_error, order_effect, effect, case_of, base_id_request}
use Rattle.gateway_core.specs.Step.{recipient_device, TelegramCase, TeachInAnswer, LearnedData, UnknownData}
use Rattle.actuator_commands.specs.Packets.{order_telegram}
use Rattle.gateway_core.specs.Reporting.{IsSentByOrder}

-- by a test, one thing is chosen or the other
pub if-either : {A : Type 0} (P : A → Type 0) (test : Bool) (one other : A) → (test ≡ true → P one)
    → (test ≡ false → P other) → P (if test then one else other)
if-either P test one other if_true if_false = grind arith

-- a device that is found is found under its own ID
device_of-known : (devices : Devices) (id : ℕ) (known : Device) → device_of devices id ≡ Some known
    → device_of devices known.id ≡ Some known
device_of-known devices id known is =
    let same : known.id ≡ id = grind arith in ap (device_of devices) same ∙ is

-- ---- a teach-in telegram is one, whatever it contains

-- it is one of these
abbrev IsTeaching : Teach → Type 0
IsTeaching kind =
    (kind ≡ teach.Contact)
    ⊎ ((kind ≡ teach.Bare)
    ⊎ (((query : FourByteQuery) × (kind ≡ teach.FourByte query)) ⊎ ((query : UteQuery) × (kind ≡ teach.Ute query))))

pub teaches : (kind : Teach) (known : Option Device) → IsTeaching kind → case_by_role kind known ≡ TeachInTelegram
teaches kind known is = grind arith

pub teaching-not_plain : (kind : Teach) → IsTeaching kind → kind ≢ teach.Plain
teaching-not_plain kind is plain = grind arith

-- ---- a sender that is rejected

-- nothing is done for it
abbrev pub IsRefusal : Outcome → Type 0
IsRefusal Accepted = ⊥
IsRefusal Deleted = ⊥
IsRefusal outcome = Unit {0}

Refuses-is_refusal : (kind : Teach) (outcome : Outcome) → Refuses kind outcome → IsRefusal outcome
Refuses-is_refusal kind outcome is = grind arith

-- ---- whatever the reason, an ignored packet is counted as ignored

no_telegram-ignored : (packet : Packet) → counter_for (why_no_telegram_or_response packet) ≡ count.Ignored
no_telegram-ignored packet = grind arith

nothing_done-ignored : (asked : Bool) (mode : Mode) → counter_for (why_nothing_done asked mode) ≡ count.Ignored
nothing_done-ignored asked mode = grind arith

unread-ignored : (fault : Unreadable) → counter_for (why_unread fault) ≡ count.Ignored
unread-ignored fault = grind arith

-- ---- all effects

-- it holds for each effect that a telegram may have
pub record OfTelegram (P : Effect → Type 0) (state : State) (t : Telegram) : Type 0 where
  pub ignores : (asked : Bool) (disposition : Disposition) → counter_for disposition.why ≡ count.Ignored
      → P (silent_effect asked disposition)
  pub reads : (known : Device) (line : ReadingLine)
      → P (packet_desk_line_effect NeedsStore (for_device known why.Read) (Reading line))
  pub learns : Hears state.mode (teach_in_of t) → (eep : Eep) (maker : Option ℕ) (known : Bool)
      → plan_of t state.mode known ≡ add t eep maker
      → P (accept_effect state (teach_in_of t) (record { id = t.sender; eep = eep; maker = maker; label = [] }))
  pub forgets : LearnsByTeachIn state.mode → AsksDeletion (teach_in_of t)
      → P (delete_effect state (teach_in_of t) t.sender)
  pub refuses : Hears state.mode (teach_in_of t) → (need : Need) (line : TeachLine) → IsRefusal line.outcome
      → P (record (teach_report_effect state (teach_in_of t) line) { need = need })

module _ (P : Effect → Type 0) (state : State) (t : Telegram) (each : OfTelegram P state t) where
  of-plan : (asked known : Bool) → P (plan_effect state t asked (plan_of t state.mode known))
  of-plan asked known =
      of_plan (λ plan. plan_of t state.mode known ≡ plan → P (plan_effect state t asked plan)) t state.mode known
      (record {
        silent = λ planned. each.ignores asked _ (nothing_done-ignored asked state.mode);
        adds = λ hears eep maker planned.
            either P (is_full_for state.devices t.sender) _ _ (each.refuses hears NeedsStore _ tt)
            (each.learns hears eep maker known planned);
        forgets = λ learning asks planned. each.forgets learning asks;
        refuses = λ hears outcome is planned. each.refuses hears _ (query_teach_line t.sender (teach_in_of t) outcome)
            (Refuses-is_refusal (teach_in_of t) outcome is);
      }) refl

  of-case : (case : TelegramCase) → P (case_effect state t case)
  of-case FilteredOut = each.ignores false _ refl
  of-case TeachInAnswer = each.ignores false _ refl
  of-case TeachInTelegram = of-plan false _
  of-case UnknownData = of-plan true false
  of-case (LearnedData known) = of-reading (read_by known.eep t)
    where
      of-reading : (readings : Result (List Entry) Unreadable) → P (reading_effect t known readings)
      of-reading (Err fault) = each.ignores true _ (unread-ignored fault)
      of-reading (Ok readings) = each.reads known _

-- it holds for each effect that a packet may have
pub record OfPacket (P : Effect → Type 0) (state : State) (packet : Packet) : Type 0 where
  pub telegrams : (t : Telegram) → telegram_of packet ≡ Ok t → OfTelegram P state t
  pub ignores : (disposition : Disposition) → counter_for disposition.why ≡ count.Ignored
      → P (silent_effect false disposition)
  pub responds : (response : ModuleResponse) → P (packet_desk_line_effect NeedsMemory (without_device why.Response)
      (ResponseLine response))

-- an order to devices has no other effect
pub sends-effect : (state : State) (order : Order) → sends order ≡ true
    → order_effect state (Ok order) ≡ sending_order_effect state order
sends-effect state order is = grind arith

-- it holds for each effect that a line may have that spells this
pub record OfLine (P : Effect → Type 0) (state : State) (spelled : Result Order OrderFault) : Type 0 where
  pub answers : (need : Need) (lines : List DeskLine) → ((line : TeachLine) → lines ≢ TeachOf line ∷ [])
      → P (lines_effect need lines)
  pub opens : (set : Mode) → ((eep : Eep) → set ≡ mode.LearnAs eep → spelled ≡ Ok (LearnAs eep)) → P (mode_effect set)
  pub sends : (asked : Bool) (order : Order) (packet : Packet) → spelled ≡ Ok order → IsSentByOrder state order packet
      → P (send_effect asked (spelling packet))
  pub learns : (known : Device) → (spelled ≡ Ok (Add known.id known.eep)) × (known.maker ≡ None)
      → P (ordered_learn_effect known)
  pub forgets : (known : Device) → device_of state.devices known.id ≡ Some known → P (ordered_forget_effect known)
  pub relabels : (id : ℕ) (label : List ℕ) → spelled ≡ Ok (Label id label) → IsSome (device_of state.devices id)
      → P (relabel_effect id label)

list-has_no_teach_line : (known : List Device) (line : TeachLine) → list_lines known ≢ TeachOf line ∷ []
list-has_no_teach_line [] line is = absurd cc
list-has_no_teach_line (first ∷ others) line is = absurd cc

module _ (P : Effect → Type 0) (state : State) where
  -- so it holds for the effect of a packet
  pub of_packet : (packet : Packet) → OfPacket P state packet → P (packet_effect state packet)
  of_packet packet each = by_contents (telegram_of packet) refl
    where
      of-response : (response : Option ModuleResponse) → P (non_telegram_effect packet response)
      of-response None = each.ignores _ (no_telegram-ignored packet)
      of-response (Some response) = each.responds response

      by_contents : (telegram : Result Telegram TelegramFault) → telegram_of packet ≡ telegram
          → P (packet_effect_from state packet telegram)
      by_contents (Ok t) carried = of-case P state t (each.telegrams t carried) (case_of state t)
      by_contents (Err fault) carried = of-response (response_in packet)

  module _ (spelled : Result Order OrderFault) (each : OfLine P state spelled) where
    of-error : (need : Need) (reason : ErrorReason) → P (lines_effect need (Error reason ∷ []))
    of-error need reason = each.answers need (Error reason ∷ []) (λ line is. absurd cc)

    of-supported : (eep : Eep) (effect : Effect) → P effect → P (if_supported_else_error eep effect)
    of-supported eep effect holds = either P (supported eep) _ _ holds (of-error _ error.UnsupportedProfile)

    of-known : (known : Option Device) (effect_of : Device → Effect)
        → ((device : Device) → known ≡ Some device → P (effect_of device))
        → P (if_learned_else_error known effect_of)
    of-known None effect_of holds = of-error _ (error.Order UnknownDevice)
    of-known (Some device) effect_of holds = holds device refl

    of-sending : (asked : Bool) (order : Order) (telegram : Result Telegram OrderFault) → spelled ≡ Ok order
        → order_telegram order (recipient_device state.devices (recipient_id order)) state.base ≡ Some telegram
        → P (send_result_effect asked (Some telegram))
    of-sending asked order (Ok t) is sent = each.sends asked order (radio_packet t) is (inr (t, refl, sent))
    of-sending asked order (Err fault) is sent = of-error _ (error.Order fault)

  of-order : (order : Result Order OrderFault) → OfLine P state order → P (order_effect state order)
  of-order (Err fault) each = of-error _ each _ (error.Order fault)
  of-order (Ok LearnOn) each = each.opens _ (λ eep is. absurd cc)
  of-order (Ok LearnOnAnswer) each = each.opens _ (λ eep is. absurd cc)
  of-order (Ok (LearnAs eep)) each =
      of-supported _ each eep _ (each.opens _ (λ given is. ap (λ e. Ok (LearnAs e)) cc))
  of-order (Ok LearnOff) each = each.opens _ (λ eep is. absurd cc)
  of-order (Ok (Add id eep)) each =
      let known : Device = record { id = id; eep = eep; maker = None; label = [] } in
      of-supported _ each eep _
      (either P (is_full_for state.devices id) _ _ (of-error _ each _ error.Full) (each.learns known (refl, refl)))
  of-order (Ok (Remove id)) each =
      of-known _ each (device_of state.devices id) ordered_forget_effect
      (λ known has. each.forgets known (device_of-known state.devices id known has))
  of-order (Ok (Label id label)) each =
      of-known _ each (device_of state.devices id) (λ known. relabel_effect id label)
      (λ known has. each.relabels id label refl (rw has refl))
  of-order (Ok ListAll) each = each.answers _ _ (list-has_no_teach_line (devices_by_ascending_id state.devices))
  of-order (Ok Status) each = each.answers _ _ (λ line is. absurd cc)
  of-order (Ok Base) each = each.sends false Base base_id_request refl (inl (refl, refl))
  of-order (Ok order) each = of-sending _ each (is_some (recipient_id order)) order _ refl refl

  -- for every line
  pub of_line : (line : List ℕ) → OfLine P state (order_of line) → P (line_effect state line)
  of_line line each =
      either P (nat_lt max_line (length line)) _ _ (of-error _ each _ error.TooLong) (of-order (order_of line) each)

  -- and for every input
  pub of_effect : ((packet : Packet) → OfPacket P state packet) → ((line : List ℕ) → OfLine P state (order_of line))
      → (input : Input) → P (effect state input)
  of_effect packets lines (Received packet) = of_packet packet (packets packet)
  of_effect packets lines (Ordered line) = of_line line (lines line)

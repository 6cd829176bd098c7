-- The numbers of devices stay in range.
use Rattle.std.proofs.lemmas.Grind.{common_steps}
use Rattle.std.proofs.Common.{◌≡◌, inl, inr, ℕ, ◌<◌, ◌^◌, Bool, List, [], ◌∷◌, ◌++◌, Option, Some, None, Ok, sym}
use Rattle.std.proofs.Common.{subst, arith, rules}
use Rattle.std.specs.Prelude.{IfSome, slice_index, ◌⊎◌}
use Rattle.std.specs.List.{AllByRecursion, AllZip}
use Rattle.std.specs.Option.{option_map}
use Rattle.hex.specs.Hex.{decode_of}
use Rattle.hex.proofs.HexLemmas.{decode_of-ok}
use Rattle.esp3_frames.specs.Packet.{Packet}
use Rattle.erp1_telegrams.specs.declared.eep.Eep.{Eep}
use Rattle.erp1_telegrams.specs.Telegram.{Telegram, telegram_of}
use Rattle.erp1_telegrams.proofs.TelegramLemmas.{of_carried}
use Rattle.learned_devices.specs.declared.Device.{Device}
use Rattle.learned_devices.specs.Devices.{DeviceData, Devices, Operation, Learn, DeviceUpdate, data_after, apply_update}
use Rattle.learned_devices.specs.Devices.{device, learn_update}
use Rattle.learned_devices.specs.Ranges.{IsProfileInRange, MakerFitsTwoBytes, HasDeviceNumbersInRange, AreInRange}
use Rattle.learned_devices.proofs.ForCallers.{entered-in}
use Rattle.teach_in.specs.declared.mode.Mode.{Mode}
use Rattle.teach_in.specs.declared.mode.Mode.TheVariants.{LearnAs}
use Rattle.teach_in.specs.declared.plans.Plan.{Plan}
use Rattle.teach_in.specs.declared.plans.Plan.TheVariants.{Add}
use Rattle.teach_in.specs.declared.telegrams.Teach.{Teach as Kind}
use Rattle.teach_in.specs.declared.telegrams.Teach.TheVariants.{FourByte, Ute}
use Rattle.teach_in.specs.Telegrams.{teach_in_of}
use Rattle.teach_in.specs.Plans.{plan_row_of, plan_of, add}
use Rattle.teach_in.proofs.ForCallers.{of-role}
use Rattle.teach_in.specs.declared.outcome.Outcome.TheVariants.{Accepted, Deleted}
use Rattle.desk_orders.specs.declared.orders.Order.{Order}
use Rattle.desk_orders.specs.declared.orders.Order.TheVariants as order
use Rattle.desk_orders.specs.Orders.{order_of, words_of_order}
use Rattle.desk_orders.specs.Words.{Word, Id, Profile, SpellsId, SpellsEep, SpellsWord}
use Rattle.desk_orders.proofs.OrderLemmas.{orders_are_spelled}
use Rattle.json_lines.specs.Lines.{Teach, TeachLine, text}
use Rattle.json_lines.proofs.TeachTextsInjective.{one_teach_line}
use Rattle.gateway_core.specs.Step.{State, Input, Received, Ordered, Effect, update_of, effect, new_mode_of}
use Rattle.gateway_core.specs.Step.{device_teach_line, mode_set_by_learning, with_update, with_mode}
use Rattle.gateway_core.specs.Run.{InputResult, Applied, state_after_result}
use Rattle.gateway_core.specs.Sessions.{initial_state}
use Rattle.gateway_core.specs.Prefixes.{HasFailedNextUpdate, HasInterruptedUpdate, state_after_run}
use Rattle.gateway_core.specs.Reporting.{IsDeviceOfDeletedLine, OutcomeMatchesUpdate, accepted_or_deleted_update}
use Rattle.gateway_core.specs.Ranges.{IsModeInRange, IsStateInRange, PacketBodyIsBytes, StaysInRange}
use Rattle.gateway_core.specs.Ranges.{SessionsLeaveDevicesInRange, ReportsInRange}
use Rattle.gateway_core.proofs.ByteLemmas.{AreBytes, field-below, four-below, AreBytes-front, AreBytes-back}
use Rattle.gateway_core.proofs.EffectLemmas.{of_packet, of_line}
use Rattle.gateway_core.proofs.PrefixLemmas.{sessions_leave_prefixes}
use Rattle.gateway_core.proofs.ReportingLemmas.{teach_lines_are_true}
use Rattle.gateway_core.proofs.RunLemmas.{run-last}

-- ---- the sender of a telegram

sender-below : (packet : Packet) (t : Telegram) → telegram_of packet ≡ Ok t → PacketBodyIsBytes (Received packet)
    → t.sender < 2 ^ 32
sender-below packet t carried bytes =
    let is = of_carried packet t carried in
    let id : AreBytes is.id =
    AreBytes-back (t.rorg ∷ t.payload) is.id
    (AreBytes-front (t.rorg ∷ t.payload ++ is.id) (t.status ∷ []) (subst AreBytes is.body bytes)) in
    let at : (i : ℕ) → i < 4 → slice_index is.id i < 256 = λ i inside. id i 0 (omega (arith, is.four, inside)) in
    subst (λ n. n < 2 ^ 32) (sym is.sender)
    (four-below is.id (at 0 (omega arith)) (at 1 (omega arith)) (at 2 (omega arith)) (at 3 (omega arith)))

-- ---- a plan

abbrev IsPlanInRange : Plan → Type 0
IsPlanInRange (Add known) = IsProfileInRange known.eep × MakerFitsTwoBytes known.maker
IsPlanInRange plan = Unit {0}

-- the profile and maker of a query, if the telegram is one
abbrev IsRoleInRange : Kind → Type 0
IsRoleInRange (FourByte query) = IsProfileInRange query.eep × MakerFitsTwoBytes (Some query.maker)
IsRoleInRange (Ute query) = IsProfileInRange query.eep × MakerFitsTwoBytes (Some query.maker)
IsRoleInRange kind = Unit {0}

role-in_range : (t : Telegram) → IsRoleInRange (teach_in_of t)
role-in_range t = grind (arith, common_steps, field-below, of-role)

own_plan-in_range : (t : Telegram) (known : Bool) (kind : Kind) → IsRoleInRange kind
    → IsPlanInRange (plan_row_of t known kind).by_own_profile
own_plan-in_range t known kind role = grind arith

desk_plan-in_range : (t : Telegram) (known : Bool) (kind : Kind) (eep : Eep) → IsRoleInRange kind → IsProfileInRange eep
    → IsPlanInRange ((plan_row_of t known kind).by_desk_profile eep)
desk_plan-in_range t known kind eep role is = grind arith

plan-in_range : (t : Telegram) (mode : Mode) (known : Bool) → IsModeInRange mode → IsPlanInRange (plan_of t mode known)
plan-in_range t mode known is = grind (arith, common_steps, desk_plan-in_range, own_plan-in_range, role-in_range)

-- ---- an order

byte-in_range : (digits : List ℕ) (byte : ℕ) → decode_of digits ≡ Ok (byte ∷ []) → byte < 256
byte-in_range digits byte is = let ok = decode_of-ok digits (byte ∷ []) is in ok.3 0

profile-in_range : (text : List ℕ) (eep : Eep) → SpellsEep text eep → IsProfileInRange eep
profile-in_range text eep is = grind (arith, common_steps, byte-in_range)

id-in_range : (digits : List ℕ) (id : ℕ) → SpellsId digits id → id < 2 ^ 32
id-in_range digits id (bytes, four, decoded, is) = grind (arith, common_steps, decode_of-ok, four-below)

-- the ID or the profile that a word is
abbrev IsWordInBytes : Word → Type 0
IsWordInBytes (Id id) = id < 2 ^ 32
IsWordInBytes (Profile eep) = IsProfileInRange eep
IsWordInBytes word = Unit {0}

word-in_range : (text : List ℕ) (word : Word) → SpellsWord text word → IsWordInBytes word
word-in_range text (Id id) is = id-in_range text id is
word-in_range text (Profile eep) is = profile-in_range text eep is
word-in_range text word is = tt

words-in_range : (texts : List (List ℕ)) (words : List Word) → AllZip SpellsWord texts words
    → AllByRecursion IsWordInBytes words
words-in_range [] [] spell = tt
words-in_range (text ∷ texts) (word ∷ words) spell = grind (arith, common_steps, word-in_range, (words-in_range texts))
words-in_range texts words spell = absurd spell

order-in_range : (line : List ℕ) (order : Order) → order_of line ≡ Ok order
    → AllByRecursion IsWordInBytes (words_of_order order)
order-in_range line order is =
    let (texts, whole, spell) = (orders_are_spelled.spelled line order is).0 in words-in_range texts
    (words_of_order order) spell

set-in_range : (line : List ℕ) (mode : Mode)
    → ((eep : Eep) → mode ≡ LearnAs eep → order_of line ≡ Ok (order.LearnAs eep)) → IsModeInRange mode
set-in_range line mode is = grind (arith, common_steps, order-in_range)

-- ---- the update of an effect

abbrev IsDeedInRange : ℕ → Operation → Type 0
IsDeedInRange sender (Learn eep maker) = IsProfileInRange eep × (sender < 2 ^ 32) × MakerFitsTwoBytes maker
IsDeedInRange sender operation = Unit {0}

abbrev IsChangeInRange : DeviceUpdate → Type 0
IsChangeInRange update = IsDeedInRange update.sender update.operation

-- the update and the mode that is set are in range
abbrev KeepsRange : Effect → Type 0
KeepsRange e = IfSome e.update IsChangeInRange × IfSome e.mode IsModeInRange

added-in_range : (line : List ℕ) (known : Device) → order_of line ≡ Ok (order.Add known.id known.eep)
    → known.maker ≡ None
    → IsChangeInRange (learn_update known)
added-in_range line known is unknown = grind (arith, common_steps, order-in_range)

input-keeps : (state : State) (input : Input) → IsStateInRange state → PacketBodyIsBytes input
    → KeepsRange (effect state input)
input-keeps state (Received packet) in_range bytes = of_packet KeepsRange state packet (search
    (rules, learned, closed-in_range))
  where
    learned : (t : Telegram) → telegram_of packet ≡ Ok t → (eep : Eep) (maker : Option ℕ) (known : Bool)
        → plan_of t state.mode known ≡ add t eep maker
        → IsChangeInRange (learn_update (record { id = t.sender; eep = eep; maker = maker; label = [] }))
    learned t carried eep maker known planned =
        let plan = rw planned at (plan-in_range t state.mode known in_range.1) in
        (plan.0, sender-below packet t carried bytes, plan.1)

    closed-in_range : (mode : Mode) → IfSome (mode_set_by_learning mode) IsModeInRange
    closed-in_range mode = grind arith
input-keeps state (Ordered line) in_range bytes =
    of_line KeepsRange state line (record {
      answers = λ need lines none. (tt, tt);
      opens = λ mode is. (tt, set-in_range line mode is);
      sends = λ asked order packet spelled is. (tt, tt);
      learns = λ known is. (added-in_range line known is.0 is.1, tt);
      forgets = λ known is. (tt, tt);
      relabels = λ id label is known. (tt, tt);
    })

-- ---- the next state

after-in_range : (sender : ℕ) (known : Option DeviceData) (operation : Operation) → IsDeedInRange sender operation
    → IfSome (option_map (device sender) known) HasDeviceNumbersInRange
    → IfSome (option_map (device sender) (data_after known operation)) HasDeviceNumbersInRange
after-in_range sender known operation is old = grind arith

changed-in_range : (devices : Devices) (update : DeviceUpdate) → IsChangeInRange update → AreInRange devices
    → AreInRange (apply_update devices update)
changed-in_range devices update is old = grind (arith, common_steps, after-in_range, entered-in)

pub with_update-in_range : (devices : Devices) (update : Option DeviceUpdate) → IfSome update IsChangeInRange
    → AreInRange devices
    → AreInRange (with_update devices update)
with_update-in_range devices update is old = grind (arith, common_steps, changed-in_range)

with_mode-in_range : (mode : Mode) (set : Option Mode) → IfSome set IsModeInRange → IsModeInRange mode
    → IsModeInRange (with_mode mode set)
with_mode-in_range mode set is old = grind arith

state_after_result-in_range : (state : State) (input : Input) (result : InputResult) → PacketBodyIsBytes input
    → IsStateInRange state
    → IsStateInRange (state_after_result state input result)
state_after_result-in_range state input Applied bytes old =
    let keeps = input-keeps state input old bytes in (
      with_update-in_range state.devices (update_of state input) keeps.0 old.0,
      with_mode-in_range state.mode (new_mode_of state input) keeps.1 old.1,
    )
state_after_result-in_range state input failed bytes old = old

pub state_after_run-in_range : (state : State) (inputs : List Input) (results : List InputResult)
    → AllByRecursion PacketBodyIsBytes inputs
    → IsStateInRange state → IsStateInRange (state_after_run state inputs results)
state_after_run-in_range state (input ∷ inputs) (result ∷ results) bytes is =
    state_after_run-in_range (state_after_result state input result) inputs results bytes.1
    (state_after_result-in_range state input result bytes.0 is)
state_after_run-in_range state inputs results bytes is = is

pub stays_in_range : StaysInRange
stays_in_range old new inputs results answers run bytes is = grind (arith, run-last, state_after_run-in_range)

-- ---- what a session leaves

update-in_range : (state : State) (input : Input) → PacketBodyIsBytes input → IsStateInRange state
    → AreInRange (with_update state.devices (update_of state input))
update-in_range state input bytes is = grind (arith, common_steps, input-keeps, with_update-in_range)

failed_next-in_range : (state : State) (inputs : List Input) (results : List InputResult) (devices : Devices)
    → HasFailedNextUpdate state inputs results devices → AllByRecursion PacketBodyIsBytes inputs → IsStateInRange state
    → AreInRange devices
failed_next-in_range state inputs results devices done bytes is = grind (arith, common_steps, update-in_range)

interrupted-in_range : (state : State) (interrupted : Option Input) (devices : Devices)
    → HasInterruptedUpdate state interrupted devices
    → IfSome interrupted PacketBodyIsBytes → IsStateInRange state → AreInRange devices
interrupted-in_range state interrupted devices done bytes is = grind (arith, common_steps, update-in_range)

-- the first inputs are of bytes, and the others
pub bytes-append : (before later : List Input) → AllByRecursion PacketBodyIsBytes (before ++ later)
    → AllByRecursion PacketBodyIsBytes before × AllByRecursion PacketBodyIsBytes later
bytes-append [] later bytes = (tt, bytes)
bytes-append (input ∷ before) later bytes = grind (arith, common_steps, (bytes-append before))

pub leaves_in_range : SessionsLeaveDevicesInRange
leaves_in_range session is found bytes interrupted =
    let start = initial_state session.base session.found in
    elim (sessions_leave_prefixes session is) [
      | inl prefix ↦
          let parts = bytes-append prefix.earlier_inputs prefix.later_inputs (rw prefix.inputs_are at bytes) in
          let mid : IsStateInRange prefix.mid = rw prefix.mid_is
          (state_after_run-in_range start prefix.earlier_inputs prefix.earlier_results parts.0
          (found, tt)) in
          elim prefix.devices_are [
            | inl same ↦ rw same mid.0
            | inr fails ↦
                failed_next-in_range prefix.mid prefix.later_inputs prefix.later_results session.left fails parts.1 mid
          ]
      | inr done ↦
          interrupted-in_range session.last session.interrupted_input session.left done interrupted
          (stays_in_range start session.last session.inputs session.results session.answers is.run bytes (found, tt))
    ]

-- ---- what a teach line reports

deleted-in_range : (state : State) (input : Input) (known : Device) → IsStateInRange state → PacketBodyIsBytes input
    → IsDeviceOfDeletedLine state input known → HasDeviceNumbersInRange known
deleted-in_range state (Ordered line) known in_range bytes is = rw is at (in_range.0 known.id)
deleted-in_range state (Received packet) known in_range bytes (t, carried, id, query, asked, wants, eep, maker) =
    let role = rw asked at (role-in_range t) in
    rw (eep, id, maker) (role.0, sender-below packet t carried bytes, role.1)

-- an acknowledged line reports the update of a device, which is in range
pub reported-device : (state : State) (input : Input) (line : TeachLine)
    → (line.outcome ≡ Accepted) ⊎ (line.outcome ≡ Deleted)
    → OutcomeMatchesUpdate (IsDeviceOfDeletedLine state input) (effect state input) line line.outcome
    → (known : Device) × (text (Teach line) ≡ text (Teach (device_teach_line known line.outcome)))
    × (update_of state input ≡ Some (accepted_or_deleted_update line.outcome known))
    × (IsStateInRange state → PacketBodyIsBytes input → HasDeviceNumbersInRange known)
reported-device state input line (inl accepted) matches =
    let (known, same, asks) = rw accepted at matches in
    (known, rw accepted same, rw accepted asks, λ in_range bytes. rw asks at (input-keeps state input in_range bytes).0)
reported-device state input line (inr deleted) matches =
    let (known, same, gone, asks) = rw deleted at matches in
    (known, rw deleted same, rw deleted asks, λ in_range bytes. deleted-in_range state input known in_range bytes gone)

pub reports_in_range : ReportsInRange
reports_in_range state input result line in_range bytes answered acknowledged =
    let (known, same_text, asks, is_in_range) = reported-device state input line acknowledged
    (teach_lines_are_true state input result line answered).1 in
    record {
      device = known;
      in_range = is_in_range in_range bytes;
      update = asks;
      same_text = same_text;
      is_line_of_device = λ numbers.
          one_teach_line line (device_teach_line known line.outcome) numbers (is_in_range in_range bytes) same_text;
    }

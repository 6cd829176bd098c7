-- The meaning of each word that explains a packet, given the packet and what was known; and what the line shows.
use Rattle.std.specs.Prelude.{◌≡◌, ◌≢◌, ◌⊎◌, ◌<◌, ⊤, false, true, length, List, [], IsErr, Option, Some, None, Ok, Err}
use Rattle.std.specs.Option.{option_or}
use Rattle.esp3_frames.specs.Packet.{Packet}
use Rattle.erp1_telegrams.specs.declared.eep.Eep.{Eep}
use Rattle.erp1_telegrams.specs.Address.{is_gateway_id, is_filtered_out}
use Rattle.erp1_telegrams.specs.Telegram.{Telegram, telegram_of}
use Rattle.profile_rows.specs.Reading.{Entry}
use Rattle.profile_rows.specs.declared.unreadable.Unreadable.{Unreadable}
use Rattle.profile_rows.specs.declared.unreadable.Unreadable.TheVariants as unreadable
use Rattle.learned_devices.specs.declared.Device.{Device}
use Rattle.learned_devices.specs.Devices.{device_of, forget_update, is_full_for, learn_update}
use Rattle.teach_in.specs.declared.mode.Mode.TheVariants.{Closed, LearnAs}
use Rattle.teach_in.specs.declared.outcome.Outcome.TheVariants.{Accepted, Deleted, Unsupported, Full, General}
use Rattle.teach_in.specs.declared.outcome.Outcome.TheVariants.{NoProfile}
use Rattle.teach_in.specs.declared.telegrams.Teach.{Teach}
use Rattle.teach_in.specs.declared.telegrams.Teach.TheVariants.{Answer, Bare, Contact, FourByte, Plain, Ute}
use Rattle.teach_in.specs.declared.ute.UteQuery.{UteQuery}
use Rattle.teach_in.specs.declared.plans.Plan.{Plan}
use Rattle.teach_in.specs.declared.plans.Plan.TheVariants.{Add, Forget, Refuse}
use Rattle.teach_in.specs.Plans.{plan_of}
use Rattle.teach_in.specs.Profiles.{supported}
use Rattle.teach_in.specs.Telegrams.{teach_in_of}
use Rattle.teach_in.specs.Ute.{request_in, deletion_request, unused_request}
use Rattle.gateway_state.specs.declared.handling_reason.HandlingReason.{HandlingReason}
use Rattle.erp1_telegrams.specs.declared.address.FilterReason.TheVariants as reason
use Rattle.gateway_state.specs.declared.handling_reason.HandlingReason.TheVariants as why
use Rattle.json_lines.specs.PacketLines.{packet_text}
use Rattle.json_lines.specs.ShownTelegram.{ShownTelegram}
use Rattle.json_lines.specs.declared.packet.PacketLine.{PacketLine}
use Rattle.json_lines.specs.declared.packet.ShownPacket.{ShownPacket}
use Rattle.json_lines.specs.declared.packet.ShownPacket.TheVariants as shown_as
use Rattle.gateway_core.specs.declared.disposition.Disposition.{Disposition}
use Rattle.gateway_core.specs.Dispositions.{eep_in_query, maker_in_query}
use Rattle.gateway_core.specs.Profiles.{read_by}
use Rattle.gateway_core.specs.Step.{State, Received, answer_to_applied_input, update_of, is_learned}

-- the packet carries this telegram, which is addressed to us
pub record IsNotFilteredOut (state : State) (packet : Packet) (t : Telegram) : Type 0 where
  pub carried : telegram_of packet ≡ Ok t
  pub not_filtered_out : is_filtered_out state.base t ≡ false

-- a teach-in telegram that is not a reply
abbrev pub IsTeachInRequest : Teach → Type 0
IsTeachInRequest Contact = ⊤
IsTeachInRequest Bare = ⊤
IsTeachInRequest (FourByte query) = ⊤
IsTeachInRequest (Ute query) = ⊤
IsTeachInRequest kind = ⊥

-- data of a learned device
pub record IsDataOf (state : State) (packet : Packet) (t : Telegram) (known : Device) : Type 0 where
  pub not_filtered_out : IsNotFilteredOut state packet t
  pub is_plain : teach_in_of t ≡ Plain
  pub is_known : device_of state.devices t.sender ≡ Some known

-- the disposition has the profile and maker of this device, or of none
abbrev pub HasProfileAndMakerOf : Disposition → Option Device → Type 0
HasProfileAndMakerOf disposition None = (disposition.eep ≡ None) × (disposition.maker ≡ None)
HasProfileAndMakerOf disposition (Some known) = (disposition.eep ≡ Some known.eep) × (disposition.maker ≡ known.maker)

-- the table of plans has this plan for the sender of the telegram, by the mode and by whether it is learned
abbrev pub IsPlanned : State → Telegram → Plan → Type 0
IsPlanned state t plan = plan_of t state.mode (is_learned state.devices t.sender) ≡ plan

-- the desk's profile does not fit a teach-in telegram, by its RORG; no profile fits a UTE query
abbrev pub RorgDoesNotFitTeachIn : Eep → Teach → Type 0
RorgDoesNotFitTeachIn eep Contact = eep.rorg ≢ 0xD5
RorgDoesNotFitTeachIn eep Bare = eep.rorg ≢ 0xA5
RorgDoesNotFitTeachIn eep (FourByte query) = eep.rorg ≢ 0xA5
RorgDoesNotFitTeachIn eep (Ute query) = ⊤
RorgDoesNotFitTeachIn eep kind = ⊥

-- data of a learned device that its profile cannot read, for one of these faults
abbrev pub IsUnreadableData : State → Packet → Disposition → (Unreadable → Type 0) → Type 0
IsUnreadableData state packet disposition IsFault =
    (t : Telegram) × (known : Device) × (fault : Unreadable) × IsDataOf state packet t known
    × (read_by known.eep t ≡ Err fault) × IsFault fault × HasProfileAndMakerOf disposition (Some known)

-- the meaning of the word, and whose profile and maker the disposition has
abbrev pub WhyIsTrue : State → Packet → Disposition → HandlingReason → Type 0
WhyIsTrue state packet disposition why.Failed = ⊥
WhyIsTrue state packet disposition why.Response =
    (packet.kind ≡ 2) × (0 < length packet.body) × HasProfileAndMakerOf disposition None
WhyIsTrue state packet disposition why.EmptyResponse =
    (packet.kind ≡ 2) × (packet.body ≡ []) × HasProfileAndMakerOf disposition None
WhyIsTrue state packet disposition why.OtherType =
    (packet.kind ≢ 1) × (packet.kind ≢ 2) × HasProfileAndMakerOf disposition None
WhyIsTrue state packet disposition why.NoTelegram =
    (packet.kind ≡ 1) × IsErr (telegram_of packet) × HasProfileAndMakerOf disposition None
WhyIsTrue state packet disposition (why.FilteredOut reason.FromBroadcast) =
    (t : Telegram) × (telegram_of packet ≡ Ok t) × (t.sender ≡ 0xFFFF_FFFF) × HasProfileAndMakerOf disposition None
WhyIsTrue state packet disposition (why.FilteredOut reason.ForOthers) =
    (t : Telegram) × (telegram_of packet ≡ Ok t) × (t.sender ≢ 0xFFFF_FFFF) × (t.dest ≢ 0xFFFF_FFFF)
    × (is_gateway_id state.base t.dest ≡ false) × HasProfileAndMakerOf disposition None
WhyIsTrue state packet disposition why.TeachInReply =
    (t : Telegram) × IsNotFilteredOut state packet t × (teach_in_of t ≡ Answer) × HasProfileAndMakerOf disposition None
WhyIsTrue state packet disposition why.WindowClosed =
    (t : Telegram) × IsNotFilteredOut state packet t × IsTeachInRequest (teach_in_of t) × (state.mode ≡ Closed)
    × HasProfileAndMakerOf disposition None
WhyIsTrue state packet disposition why.OtherMode =
    (t : Telegram) × IsNotFilteredOut state packet t × IsTeachInRequest (teach_in_of t)
    × ((eep : Eep) × (state.mode ≡ LearnAs eep) × RorgDoesNotFitTeachIn eep (teach_in_of t))
    × HasProfileAndMakerOf disposition None
WhyIsTrue state packet disposition why.UnknownSender =
    (t : Telegram) × IsNotFilteredOut state packet t × (teach_in_of t ≡ Plain)
    × (device_of state.devices t.sender ≡ None)
    × (update_of state (Received packet) ≡ None) × HasProfileAndMakerOf disposition None
WhyIsTrue state packet disposition why.Read =
    (t : Telegram) × (known : Device) × (readings : List Entry) × IsDataOf state packet t known
    × (read_by known.eep t ≡ Ok readings) × HasProfileAndMakerOf disposition (Some known)
WhyIsTrue state packet disposition why.WrongKind =
    IsUnreadableData state packet disposition (λ fault. fault ≡ unreadable.WrongKind)
WhyIsTrue state packet disposition why.WrongLength =
    IsUnreadableData state packet disposition (λ fault. fault ≡ unreadable.WrongLength)
WhyIsTrue state packet disposition why.OtherMessage =
    IsUnreadableData state packet disposition (λ fault. (fault ≡ unreadable.OtherMessage)
    ⊎ (fault ≡ unreadable.NotSupported))
WhyIsTrue state packet disposition (why.TeachIn Accepted) =
    (t : Telegram) × (known : Device) × IsNotFilteredOut state packet t × (known.id ≡ t.sender) × (state.mode ≢ Closed)
    × IsPlanned state t (Add known) × (update_of state (Received packet) ≡ Some (learn_update known))
    × HasProfileAndMakerOf disposition (Some known)
WhyIsTrue state packet disposition (why.TeachIn Deleted) =
    (t : Telegram) × (query : UteQuery) × IsNotFilteredOut state packet t × (state.mode ≢ Closed)
    × (teach_in_of t ≡ Ute query)
    × (request_in query ≡ deletion_request) × IsPlanned state t (Forget t.sender)
    × (update_of state (Received packet) ≡ Some (forget_update t.sender))
    × HasProfileAndMakerOf disposition None
WhyIsTrue state packet disposition (why.TeachIn Full) =
    (t : Telegram) × (known : Device) × IsNotFilteredOut state packet t × (known.id ≡ t.sender) × (state.mode ≢ Closed)
    × IsPlanned state t (Add known) × (is_full_for state.devices t.sender ≡ true)
    × (update_of state (Received packet) ≡ None) × HasProfileAndMakerOf disposition None
WhyIsTrue state packet disposition (why.TeachIn Unsupported) =
    (t : Telegram) × (eep : Eep) × IsNotFilteredOut state packet t × (state.mode ≢ Closed)
    × (eep_in_query (teach_in_of t) ≡ Some eep) × (supported eep ≡ false) × IsPlanned state t (Refuse Unsupported)
    × (update_of state (Received packet) ≡ None) × HasProfileAndMakerOf disposition None
WhyIsTrue state packet disposition (why.TeachIn General) =
    (t : Telegram) × (query : UteQuery) × IsNotFilteredOut state packet t × (state.mode ≢ Closed)
    × (teach_in_of t ≡ Ute query)
    × (request_in query ≡ unused_request) × IsPlanned state t (Refuse General)
    × (update_of state (Received packet) ≡ None) × HasProfileAndMakerOf disposition None
WhyIsTrue state packet disposition (why.TeachIn NoProfile) =
    (t : Telegram) × IsNotFilteredOut state packet t × (state.mode ≢ Closed) × (teach_in_of t ≡ Bare)
    × IsPlanned state t (Refuse NoProfile) × (update_of state (Received packet) ≡ None)
    × HasProfileAndMakerOf disposition None

-- A telegram is shown with its parts, and with the profile and maker of its query, if it is one, otherwise with those
-- of the disposition.
pub record IsShown (t : Telegram) (disposition : Disposition) (shown : ShownTelegram) : Type 0 where
  pub id : shown.id ≡ t.sender
  pub dest : ((t.dest ≡ 0xFFFF_FFFF) × (shown.dest ≡ None)) ⊎ ((t.dest ≢ 0xFFFF_FFFF) × (shown.dest ≡ Some t.dest))
  pub dbm : shown.dbm ≡ t.dbm
  pub rorg : shown.rorg ≡ t.rorg
  pub payload : shown.payload ≡ t.payload
  pub status : shown.status ≡ t.status
  pub eep : shown.eep ≡ option_or (eep_in_query (teach_in_of t)) disposition.eep
  pub maker : shown.maker ≡ option_or (maker_in_query (teach_in_of t)) disposition.maker

-- the line shows the telegram that the packet carries, or the packet's type and the length of its data
abbrev pub Shows : Packet → Disposition → ShownPacket → Type 0
Shows packet disposition (shown_as.Telegram shown) =
    (t : Telegram) × (telegram_of packet ≡ Ok t) × IsShown t disposition shown
Shows packet disposition (shown_as.WithoutTelegram kind size) =
    IsErr (telegram_of packet) × (kind ≡ packet.kind) × (size ≡ length packet.body)

-- the line that explains an applied packet shows the packet, and its word is true
pub record IsTrulyExplained (state : State) (packet : Packet) : Type 0 where
  pub disposition : Disposition
  pub line : PacketLine
  pub explanation : (answer_to_applied_input state (Received packet)).explanation ≡ packet_text line
  pub same_why : line.why ≡ disposition.why
  pub shows : Shows packet disposition line.packet
  pub why_is_true : WhyIsTrue state packet disposition disposition.why

abbrev pub ExplanationsAreTrue : Type 0
ExplanationsAreTrue = (state : State) (packet : Packet) → IsTrulyExplained state packet

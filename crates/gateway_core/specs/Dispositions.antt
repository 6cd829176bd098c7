-- The disposition of a packet, and the line that explains it. Own choice.
use Rattle.std.specs.Prelude.{ℕ, ◌==◌, Bool, true, false, List, [], length, Option, Some, None, if◌then◌else◌}
use Rattle.std.specs.Prelude.{Result, Ok, Err}
use Rattle.std.specs.Option.{option_or}
use Rattle.esp3_frames.specs.Packet.{Packet}
use Rattle.erp1_telegrams.specs.declared.eep.Eep.{Eep}
use Rattle.erp1_telegrams.specs.declared.telegram.TelegramFault.{TelegramFault}
use Rattle.erp1_telegrams.specs.Telegram.{Telegram, telegram_of}
use Rattle.profile_rows.specs.declared.unreadable.Unreadable.{Unreadable}
use Rattle.profile_rows.specs.declared.unreadable.Unreadable.TheVariants as unreadable
use Rattle.learned_devices.specs.declared.Device.{Device}
use Rattle.teach_in.specs.declared.mode.Mode.{Mode}
use Rattle.teach_in.specs.declared.mode.Mode.TheVariants.{Closed}
use Rattle.teach_in.specs.declared.telegrams.Teach.{Teach}
use Rattle.teach_in.specs.declared.telegrams.Teach.TheVariants.{FourByte, Ute}
use Rattle.teach_in.specs.Telegrams.{teach_in_of}
use Rattle.gateway_state.specs.declared.counts.Counter.{Counter}
use Rattle.gateway_state.specs.declared.counts.Counter.TheVariants as count
use Rattle.json_lines.specs.declared.packet.PacketLine.{PacketLine}
use Rattle.json_lines.specs.declared.packet.ShownPacket.{ShownPacket}
use Rattle.json_lines.specs.declared.packet.ShownPacket.TheVariants as shown
use Rattle.gateway_state.specs.declared.handling_reason.HandlingReason.{HandlingReason}
use Rattle.gateway_state.specs.declared.handling_reason.HandlingReason.TheVariants.{Failed, Response, EmptyResponse}
use Rattle.gateway_state.specs.declared.handling_reason.HandlingReason.TheVariants.{OtherType, NoTelegram}
use Rattle.gateway_state.specs.declared.handling_reason.HandlingReason.TheVariants.{FilteredOut, TeachInReply, TeachIn, Read}
use Rattle.gateway_state.specs.declared.handling_reason.HandlingReason.TheVariants.{WindowClosed, OtherMode, UnknownSender}
use Rattle.gateway_state.specs.declared.handling_reason.HandlingReason.TheVariants.{WrongKind, WrongLength, OtherMessage}
use Rattle.json_lines.specs.PacketLines.{packet_text}
use Rattle.json_lines.specs.ShownTelegram.{ShownTelegram, shown_of}
use Rattle.gateway_core.specs.declared.disposition.Disposition.{Disposition}

-- ---- reasons

-- of a packet that carries no telegram and is no response
abbrev pub why_no_telegram_or_response : Packet → HandlingReason
why_no_telegram_or_response packet =
    if packet.kind == 1 then NoTelegram else if packet.kind == 2 then EmptyResponse else OtherType

-- Of a telegram whose plan is to do nothing: data, whose sender was looked up and is not learned, or a teach-in
-- telegram. The mode does not matter for data.
abbrev pub why_nothing_done : (is_data_of_unknown : Bool) → Mode → HandlingReason
why_nothing_done true mode = UnknownSender
why_nothing_done false Closed = WindowClosed
why_nothing_done false mode = OtherMode

-- of data that the profile of its sender cannot read; an unsupported profile reads nothing
abbrev pub why_unread : Unreadable → HandlingReason
why_unread unreadable.NotSupported = OtherMessage
why_unread unreadable.WrongKind = WrongKind
why_unread unreadable.WrongLength = WrongLength
why_unread unreadable.OtherMessage = OtherMessage

-- the counter that a packet increments
abbrev pub counter_for : HandlingReason → Counter
counter_for Failed = count.Failed
counter_for Response = count.Response
counter_for (TeachIn outcome) = count.TeachLine
counter_for Read = count.Reading
counter_for EmptyResponse = count.Ignored
counter_for OtherType = count.Ignored
counter_for NoTelegram = count.Ignored
counter_for (FilteredOut reason) = count.Ignored
counter_for TeachInReply = count.Ignored
counter_for WindowClosed = count.Ignored
counter_for OtherMode = count.Ignored
counter_for UnknownSender = count.Ignored
counter_for WrongKind = count.Ignored
counter_for WrongLength = count.Ignored
counter_for OtherMessage = count.Ignored

-- ---- the disposition of a packet: the reason, and the profile and maker of a device, if there is one

-- without a profile and a maker
abbrev pub without_device : HandlingReason → Disposition
without_device why = record { why = why; eep = None; maker = None }

-- with the profile and maker of this device
abbrev pub for_device : Device → HandlingReason → Disposition
for_device known why = record { why = why; eep = Some known.eep; maker = known.maker }

-- ---- the line that explains a packet

-- the profile and maker in a teach-in telegram, if it has them
abbrev pub eep_in_query : Teach → Option Eep
eep_in_query (FourByte query) = Some query.eep
eep_in_query (Ute query) = Some query.eep
eep_in_query kind = None

abbrev pub maker_in_query : Teach → Option ℕ
maker_in_query (FourByte query) = Some query.maker
maker_in_query (Ute query) = Some query.maker
maker_in_query kind = None

-- what is shown of a telegram with this role in teach-in: the profile and maker of its query, otherwise those of the
-- disposition
abbrev pub shown_telegram : Telegram → Teach → Disposition → ShownTelegram
shown_telegram t kind disposition =
    shown_of t (option_or (eep_in_query kind) disposition.eep) (option_or (maker_in_query kind) disposition.maker)

-- the contents of a packet: its telegram, if it carries one
abbrev pub shown_packet : Packet → Result Telegram TelegramFault → Disposition → ShownPacket
shown_packet packet (Ok t) disposition = shown.Telegram (shown_telegram t (teach_in_of t) disposition)
shown_packet packet (Err fault) disposition = shown.WithoutTelegram packet.kind (length packet.body)

abbrev pub packet_line_of : Packet → Disposition → PacketLine
packet_line_of packet disposition =
    record { packet = shown_packet packet (telegram_of packet) disposition; why = disposition.why }

-- the text of such a line, if there is one
abbrev pub packet_text_if_any : Option PacketLine → List ℕ
packet_text_if_any None = []
packet_text_if_any (Some line) = packet_text line

-- The packet lines, and their texts, as bytes. Such a line shows what a packet was, and one word for why it was handled
-- the way it was. Own choice, with the layout of the other lines.
use Rattle.std.specs.Prelude.{ℕ, ◌+◌, ◌<◌, ◌^◌, IfSome, List, [], ◌∷◌, ◌++◌, codes, decimal}
use Rattle.std.specs.List.{join_by}
use Rattle.hex.specs.Hex.{IsBytes, encode_upper}
use Rattle.json_lines.specs.Lines.{text_or_null, dbm_text, id_text, eep_string, byte_text, in_quotes, outcome_word}
use Rattle.json_lines.specs.Lines.{member_text, object_text}
use Rattle.json_lines.specs.ShownTelegram.{ShownTelegram}
use Rattle.json_lines.specs.declared.packet.PacketLine.{PacketLine}
use Rattle.json_lines.specs.declared.packet.ShownPacket.{ShownPacket}
use Rattle.json_lines.specs.declared.packet.ShownPacket.TheVariants.{Telegram, WithoutTelegram}
use Rattle.erp1_telegrams.specs.declared.address.FilterReason.TheVariants.{FromBroadcast, ForOthers}
use Rattle.gateway_state.specs.declared.handling_reason.HandlingReason.{HandlingReason}
use Rattle.gateway_state.specs.declared.handling_reason.HandlingReason.TheVariants.{Failed, Response, EmptyResponse}
use Rattle.gateway_state.specs.declared.handling_reason.HandlingReason.TheVariants.{OtherType, NoTelegram}
use Rattle.gateway_state.specs.declared.handling_reason.HandlingReason.TheVariants.{FilteredOut, TeachInReply, TeachIn}
use Rattle.gateway_state.specs.declared.handling_reason.HandlingReason.TheVariants.{WindowClosed, OtherMode, Read}
use Rattle.gateway_state.specs.declared.handling_reason.HandlingReason.TheVariants.{UnknownSender, WrongKind}
use Rattle.gateway_state.specs.declared.handling_reason.HandlingReason.TheVariants.{WrongLength, OtherMessage}

-- the word for the reason; for the outcome for a sender, the outcome's word. Own choice
abbrev pub reason_word : HandlingReason → List ℕ
reason_word Failed = codes "refused"
reason_word Response = codes "response"
reason_word EmptyResponse = codes "empty_response"
reason_word OtherType = codes "other_type"
reason_word NoTelegram = codes "no_telegram"
reason_word (FilteredOut FromBroadcast) = codes "from_broadcast"
reason_word (FilteredOut ForOthers) = codes "for_others"
reason_word TeachInReply = codes "teach_in_reply"
reason_word (TeachIn outcome) = outcome_word outcome
reason_word WindowClosed = codes "window_closed"
reason_word OtherMode = codes "other_mode"
reason_word Read = codes "read"
reason_word UnknownSender = codes "unknown_sender"
reason_word WrongKind = codes "wrong_kind"
reason_word WrongLength = codes "wrong_length"
reason_word OtherMessage = codes "other_message"

-- an ID as a string. Own choice
abbrev pub id_string : (id : ℕ) → List ℕ
id_string id = in_quotes (id_text id)

-- ---- the members of a line, in the byte order of their names

-- how a telegram was received, and its sender. Own choice
abbrev pub reception_and_sender_members : ShownTelegram → List (List ℕ × List ℕ)
reception_and_sender_members telegram =
    (codes "dbm", text_or_null dbm_text telegram.dbm)
    ∷ (codes "dest", text_or_null id_string telegram.dest)
    ∷ (codes "eep", text_or_null eep_string telegram.eep)
    ∷ (codes "id", id_string telegram.id)
    ∷ (codes "maker", text_or_null decimal telegram.maker) ∷ []

-- the payload, the RORG and the status of a telegram. Own choice
abbrev pub raw_telegram_members : ShownTelegram → List (List ℕ × List ℕ)
raw_telegram_members telegram =
    (codes "payload", in_quotes (encode_upper telegram.payload))
    ∷ (codes "rorg", in_quotes (byte_text telegram.rorg))
    ∷ (codes "status", in_quotes (byte_text telegram.status)) ∷ []

-- any other packet: its type, and the number of bytes of its data. Own choice
abbrev pub non_telegram_members : (kind size : ℕ) → List (List ℕ × List ℕ)
non_telegram_members kind size = (codes "kind", decimal kind) ∷ (codes "size", decimal size) ∷ []

-- the contents of the packet. Own choice
abbrev pub packet_members : ShownPacket → List (List ℕ × List ℕ)
packet_members (Telegram telegram) = reception_and_sender_members telegram ++ raw_telegram_members telegram
packet_members (WithoutTelegram kind size) = non_telegram_members kind size

-- the type of the line, and the reason. Own choice
abbrev pub type_and_why_members : HandlingReason → List (List ℕ × List ℕ)
type_and_why_members why = (codes "type", in_quotes (codes "packet")) ∷ (codes "why", in_quotes (reason_word why)) ∷ []

-- ---- the lines

-- the text of a line: one object, and a line feed. Own choice
abbrev pub packet_text : PacketLine → List ℕ
packet_text line = object_text (packet_members line.packet ++ type_and_why_members line.why) ++ codes "\n"

-- members in their order, with a comma between each two (RFC 8259, "Objects")
abbrev pub members_text : List (List ℕ × List ℕ) → List ℕ
members_text = join_by member_text (codes ",")

-- the length of the longest text of a sender's members, of a raw telegram's, and of the type and the reason, and of the
-- longest line: with both braces, a comma after the first and after the second of these, and the line feed
abbrev pub max_reception_and_sender_members_len : ℕ
max_reception_and_sender_members_len = 75

abbrev pub max_raw_telegram_members_len : ℕ
max_raw_telegram_members_len = 66

abbrev pub max_type_and_why_members_len : ℕ
max_type_and_why_members_len = 38

abbrev pub max_packet_line : ℕ
max_packet_line = max_reception_and_sender_members_len + max_raw_telegram_members_len + max_type_and_why_members_len + 5

-- ---- the numbers of a packet line are in the ranges of those of a packet

-- a telegram has bytes, IDs of four bytes, and a manufacturer ID of at most two
pub record HasFieldsInRange (shown : ShownTelegram) : Type 0 where
  pub dbm : IfSome shown.dbm (λ byte. byte < 256)
  pub dest : IfSome shown.dest (λ id. id < 2 ^ 32)
  pub eep : IfSome shown.eep (λ eep. (eep.rorg < 256) × (eep.func < 256) × (eep.typ < 256))
  pub id : shown.id < 2 ^ 32
  pub maker : IfSome shown.maker (λ maker. maker < 2 ^ 16)
  pub payload : IsBytes shown.payload
  pub rorg : shown.rorg < 256
  pub status : shown.status < 256

abbrev pub HasPacketNumbersInRange : ShownPacket → Type 0
HasPacketNumbersInRange (Telegram shown) = HasFieldsInRange shown
HasPacketNumbersInRange (WithoutTelegram kind size) = (kind < 256) × (size < 2 ^ 16)

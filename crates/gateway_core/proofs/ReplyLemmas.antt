-- Everything that is sent by radio is reported.
use Rattle.std.proofs.Common.{◌≡◌, inl, inr, ℕ, Bool, true, false, List, [], Option, Some, None, Ok, refl, sym, ap}
use Rattle.std.proofs.Common.{append-nil}
use Rattle.std.specs.Prelude.{unwrap_or, if◌then◌else◌}
use Rattle.esp3_frames.specs.Packet.{Packet, spelling}
use Rattle.erp1_telegrams.specs.Telegram.{Telegram, telegram_of, radio_packet}
use Rattle.learned_devices.specs.declared.Device.{Device}
use Rattle.teach_in.proofs.ForCallers.{Hears}
use Rattle.teach_in.specs.declared.mode.Mode.{Mode}
use Rattle.teach_in.specs.declared.mode.Mode.TheVariants.{LearnAnswer}
use Rattle.teach_in.specs.declared.outcome.Outcome.{Outcome}
use Rattle.teach_in.specs.declared.outcome.Outcome.TheVariants.{Accepted, Deleted}
use Rattle.teach_in.specs.declared.telegrams.Teach.{Teach as Kind}
use Rattle.teach_in.specs.declared.telegrams.Teach.TheVariants.{FourByte, Ute}
use Rattle.teach_in.specs.FourByte.{four_byte_reply}
use Rattle.teach_in.specs.Telegrams.{teach_in_of}
use Rattle.teach_in.specs.Ute.{wants_reply, ute_reply}
use Rattle.desk_orders.specs.declared.orders.Order.{Order}
use Rattle.desk_orders.specs.Orders.{order_of}
use Rattle.json_lines.specs.Lines.{TeachLine, Teach, Done, text, texts}
use Rattle.gateway_core.specs.Run.{Applied}
use Rattle.gateway_core.specs.Step.{State, Received, Ordered, Effect, device_teach_line, radio_bytes_of}
use Rattle.gateway_core.specs.Step.{reply_telegram_of, query_teach_line, packet_effect, line_effect}
use Rattle.gateway_core.specs.Reporting.{IsReplyTelegram, IsSentByOrder, RadioIsReplyOrOrdered}
use Rattle.gateway_core.proofs.EffectLemmas.{of_packet, of_line}

-- the bytes are those of a reply to this telegram with this outcome for its sender
abbrev Replies : State → Telegram → Outcome → List ℕ → Type 0
Replies state t outcome bytes =
    (reply : Telegram) × IsReplyTelegram state t outcome reply × (bytes ≡ spelling (radio_packet reply))

-- the bytes of a telegram, if there is one
radio_bytes-of_telegram : (telegram : Option Telegram) (bytes : List ℕ) → radio_bytes_of telegram ≡ Some bytes
    → (sent : Telegram) × (telegram ≡ Some sent) × (bytes ≡ spelling (radio_packet sent))
radio_bytes-of_telegram None bytes sends = absurd cc
radio_bytes-of_telegram (Some telegram) bytes sends = (telegram, refl, ap (λ o. unwrap_or o bytes) (sym sends))

-- a UTE query is answered if it waits for a reply
wanted : (wants : Bool) (reply : Option Telegram) (bytes : List ℕ)
    → radio_bytes_of (if wants then reply else None) ≡ Some bytes → (wants ≡ true) × (radio_bytes_of reply ≡ Some bytes)
wanted true reply bytes sends = (refl, sends)
wanted false reply bytes sends = absurd cc

replies-if_sent : (state : State) (t : Telegram) (mode : Mode) (kind : Kind) (outcome : Outcome) (bytes : List ℕ)
    → state.mode ≡ mode → teach_in_of t ≡ kind → Hears mode kind
    → radio_bytes_of (reply_telegram_of state.base mode kind outcome) ≡ Some bytes → Replies state t outcome bytes
replies-if_sent state t mode (Ute query) outcome bytes in_mode is hears sends =
    let (wants, replies) = wanted (wants_reply query) (ute_reply query outcome state.base) bytes sends in
    let (reply, says, spelled) = radio_bytes-of_telegram (ute_reply query outcome state.base) bytes replies in
    (reply, inr (query, is, wants, rw in_mode hears, says), spelled)
replies-if_sent state t LearnAnswer (FourByte query) outcome bytes in_mode is hears sends =
    let (reply, says, spelled) = radio_bytes-of_telegram (four_byte_reply query outcome state.base) bytes sends in
    (reply, inl (query, is, in_mode, says), spelled)
replies-if_sent state t mode kind outcome bytes in_mode is hears sends = absurd cc

-- a packet's effect has only those bytes, and a teach line with the reply's outcome
abbrev RepliesTo : State → Packet → Effect → List ℕ → Type 0
RepliesTo state packet e bytes =
    (t : Telegram) × (telegram_of packet ≡ Ok t) × (line : TeachLine) × (texts e.desk ≡ text (Teach line))
    × Replies state t line.outcome bytes

packet-replies : (state : State) (packet : Packet) (bytes : List ℕ) → (packet_effect state packet).radio ≡ Some bytes
    → RepliesTo state packet (packet_effect state packet) bytes
packet-replies state packet bytes =
    of_packet (λ e. e.radio ≡ Some bytes → RepliesTo state packet e bytes) state packet (record {
      telegrams = λ t carried.
          let replies = λ (outcome : Outcome).
          replies-if_sent state t state.mode (teach_in_of t) outcome bytes refl refl in record {
            ignores = λ asked disposition is sends. absurd cc;
            reads = λ known line sends. absurd cc;
            learns = λ hears eep maker learned planned sends.
                let known : Device = record { id = t.sender; eep = eep; maker = maker; label = [] } in
                (t, carried, device_teach_line known Accepted, append-nil _, replies Accepted hears sends);
            forgets = λ learning (query, asked, wants) sends. (
              t,
              carried,
              query_teach_line t.sender (teach_in_of t) Deleted,
              append-nil _,
              replies Deleted (rw asked learning) sends,
            );
            refuses = λ hears need line is sends. (t, carried, line, append-nil _, replies line.outcome hears sends);
          };
      ignores = λ disposition is sends. absurd cc;
      responds = λ response sends. absurd cc;
    })

-- a line's effect has only the bytes of the packet that its order sends, and reports `ok`
abbrev SendsByOrder : State → List ℕ → Effect → List ℕ → Type 0
SendsByOrder state line e bytes =
    (order : Order) × (order_of line ≡ Ok order) × (packet : Packet) × IsSentByOrder state order packet
    × (bytes ≡ spelling packet) × (texts e.desk ≡ text Done)

line-sends : (state : State) (line : List ℕ) (bytes : List ℕ) → (line_effect state line).radio ≡ Some bytes
    → SendsByOrder state line (line_effect state line) bytes
line-sends state line bytes =
    of_line (λ e. e.radio ≡ Some bytes → SendsByOrder state line e bytes) state line (record {
      answers = λ need lines none sends. absurd cc;
      opens = λ mode is sends. absurd cc;
      sends = λ asked order packet spelled is sends.
          (order, spelled, packet, is, ap (λ o. unwrap_or o bytes) (sym sends), append-nil _);
      learns = λ known is sends. absurd cc;
      forgets = λ known is sends. absurd cc;
      relabels = λ id label is known sends. absurd cc;
    })

pub radio_is_reply_or_ordered : RadioIsReplyOrOrdered
radio_is_reply_or_ordered state (Received packet) Applied bytes sends =
    let (t, carried, line, stated, (reply, says, spelled)) = packet-replies state packet bytes sends in (
      refl,
      inl (record {
        packet = packet;
        received = refl;
        telegram = t;
        carried = carried;
        line = line;
        reported = stated;
        reply = reply;
        says = says;
        bytes_are = spelled;
      }),
    )
radio_is_reply_or_ordered state (Ordered line) Applied bytes sends =
    let (order, spelled, packet, is_packet, bytes_are, done) = line-sends state line bytes sends in (
      refl,
      inr (record {
        line = line;
        ordered = refl;
        order = order;
        spelled = spelled;
        reported = done;
        packet = packet;
        is_packet = is_packet;
        bytes_are = bytes_are;
      }),
    )
radio_is_reply_or_ordered state input failed bytes sends = absurd cc

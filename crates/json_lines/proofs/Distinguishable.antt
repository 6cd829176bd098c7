-- A line for the desk and a packet line differ, whatever follows them.
use Rattle.std.proofs.Common.{◌≡◌, ◌≢◌, ℕ, List, ◌++◌, drop, refl, ap, arith}
use Rattle.std.specs.Prelude.{slice_index_or}
use Rattle.std.proofs.lemmas.Bool.{eqb-false}
use Rattle.json_lines.specs.Lines.{DeskLine, Reading, dbm_text, members_of, text, text_or_null}
use Rattle.json_lines.specs.PacketLines.{packet_members, packet_text, type_and_why_members}
use Rattle.json_lines.specs.declared.packet.PacketLine.{PacketLine}
use Rattle.json_lines.specs.declared.packet.ShownPacket.{ShownPacket}
use Rattle.json_lines.specs.declared.packet.ShownPacket.TheVariants.{Telegram, WithoutTelegram}
use Rattle.gateway_state.specs.declared.handling_reason.HandlingReason.{HandlingReason}
use Rattle.json_lines.proofs.CommaTexts.{NoComma, no-dbm, values-same}

pub distinguishable : (line : DeskLine) (packet : PacketLine) (a b : List ℕ) → text line ++ a ≢ packet_text packet ++ b
distinguishable line packet = one line packet.packet packet.why
  where
    one : (line : DeskLine) (packet : ShownPacket) (why : HandlingReason) (a b : List ℕ)
        → text line ++ a ≢ packet_text (record { packet = packet; why = why }) ++ b
    -- after the strength, a reading continues with its profile, and a packet with its destination
    one (Reading line) (Telegram shown) why a b same =
        let strength : NoComma (text_or_null dbm_text line.dbm) = no-dbm line.dbm in
        let (values, rest) = values-same 1 (members_of (Reading line))
        (packet_members (Telegram shown) ++ type_and_why_members why) a b (omega arith) (omega arith) refl
        (strength, tt) (no-dbm shown.dbm, tt) (ap (drop 1) same) in
        eqb-false 101 100 refl (ap (λ (t : List ℕ). slice_index_or t 1 0) rest)
    one line (Telegram shown) why a b same =
        eqb-false _ 100 refl (ap (λ (t : List ℕ). slice_index_or t 2 0) same)
    one (Reading line) (WithoutTelegram kind size) why a b same =
        eqb-false 100 107 refl (ap (λ (t : List ℕ). slice_index_or t 2 0) same)
    one line (WithoutTelegram kind size) why a b same =
        eqb-false _ 107 refl (ap (λ (t : List ℕ). slice_index_or t 2 0) same)

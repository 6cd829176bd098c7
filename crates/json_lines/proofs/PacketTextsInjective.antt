-- Packet lines with the same text are equal.
use Rattle.std.proofs.Common.{◌≡◌, ◌≢◌, ℕ, ◌<◌, ◌^◌, List, [], ◌++◌, codes, drop, refl, sym, ap, ◌∙◌, arith}
use Rattle.std.proofs.Common.{append_assoc, append-nil, pos, negsuc, ◌-ℤ◌, ℤ}
use Rattle.std.specs.Prelude.{slice_index_or}
use Rattle.std.specs.Fmt.{signed_decimal}
use Rattle.std.specs.List.{AllByRecursion}
use Rattle.std.proofs.lemmas.Bool.{eqb-false}
use Rattle.std.proofs.lemmas.Fmt.{decimal_injective, signed_decimal_injective}
use Rattle.std.proofs.lemmas.Int.{ints}
use Rattle.std.proofs.lemmas.List.{append_cancel_right}
use Rattle.json_lines.specs.Lines.{dbm_text}
use Rattle.json_lines.specs.PacketLines.{HasFieldsInRange, HasPacketNumbersInRange, id_string, packet_members}
use Rattle.json_lines.specs.PacketLines.{packet_text, reason_word, type_and_why_members}
use Rattle.json_lines.specs.ShownTelegram.{ShownTelegram}
use Rattle.json_lines.specs.declared.packet.PacketLine.{PacketLine}
use Rattle.json_lines.specs.declared.packet.ShownPacket.{ShownPacket}
use Rattle.json_lines.specs.declared.packet.ShownPacket.TheVariants.{Telegram, WithoutTelegram}
use Rattle.gateway_state.specs.declared.handling_reason.HandlingReason.{HandlingReason}
use Rattle.json_lines.proofs.CommaTexts.{NoComma, no-bytes, no-dbm, no-decimal, no-destination, no-id, no-known_profile}
use Rattle.json_lines.proofs.CommaTexts.{no-maker, text_from, values-same}
use Rattle.json_lines.proofs.HexTexts.{byte_bytes}
use Rattle.json_lines.proofs.PacketTexts.{mag-minus}
use Rattle.json_lines.proofs.ReasonWords.{one_why}
use Rattle.json_lines.proofs.TeachTextOutcome.{same-quoted}
use Rattle.json_lines.proofs.TeachTextsInjective.{not-null, same-byte, same-bytes, same-id, same-known, same-maker}
use Rattle.json_lines.proofs.TeachTextsInjective.{same-profile}

no-packet : (packet : ShownPacket) → HasPacketNumbersInRange packet
    → AllByRecursion (λ m. NoComma m.1) (packet_members packet)
no-packet (Telegram shown) range = (
  no-dbm shown.dbm,
  (
    no-destination shown.dest,
    (
      no-known_profile shown.eep,
      (
        no-id shown.id,
        (
          no-maker shown.maker,
          (
            no-bytes shown.payload range.payload,
            (
              no-bytes _ (byte_bytes shown.rorg),
              (
                no-bytes _ (byte_bytes shown.status),
                tt,
              ),
            ),
          ),
        ),
      ),
    ),
  ),
)
no-packet (WithoutTelegram kind size) range = (no-decimal kind, (no-decimal size, tt))

-- ---- values with the same text are equal

strength-differs : (byte : ℕ) → dbm_text byte ≢ codes "null"
strength-differs byte = signed (pos 0 -ℤ pos byte)
  where
    signed : (z : ℤ) → signed_decimal z ≢ codes "null"
    signed (pos n) same = not-null n same
    signed (negsuc n) same = eqb-false 45 110 refl (ap (λ (t : List ℕ). slice_index_or t 0 0) same)

same-strength : (a b : ℕ) → a < 256 → b < 256 → dbm_text a ≡ dbm_text b → a ≡ b
same-strength a b in_a in_b text =
    let same = signed_decimal_injective (pos 0 -ℤ pos a) (pos 0 -ℤ pos b) (omega (arith, mag-minus a))
    (omega (arith, mag-minus b)) text in
    omega (arith, ints, same)

closed : (word quote brace feed : List ℕ)
    → ((((word ++ quote) ++ []) ++ brace) ++ feed) ++ [] ≡ word ++ (quote ++ brace ++ feed)
closed word quote brace feed = simp (append_assoc, append-nil)

same-word : (one other : HandlingReason)
    → text_from (type_and_why_members one) [] ≡ text_from (type_and_why_members other) [] → one ≡ other
same-word one other same =
    let closed_by = λ (word : List ℕ). closed word (codes "\"") (codes "}") (codes "\n") in
    one_why one other (append_cancel_right (reason_word one) (reason_word other) (codes "\"}\n")
    (sym (closed_by (reason_word one)) ∙ ap (drop 23) same ∙ closed_by (reason_word other)))

-- ---- each line

telegram-same : (a b : ShownTelegram) (why by : HandlingReason) → HasFieldsInRange a → HasFieldsInRange b
    → packet_text (record { packet = Telegram a; why = why }) ≡ packet_text (record { packet = Telegram b; why = by })
    → (a ≡ b) × (why ≡ by)
telegram-same a b why by in_a in_b same =
    let ((dbm_is, (dest_is, (eep_is, (id_is, (maker_is, (payload_is, (rorg_is, (status_is, end)))))))), rest) =
    values-same 8 (packet_members (Telegram a) ++ type_and_why_members why)
    (packet_members (Telegram b) ++ type_and_why_members by) [] [] (omega arith) (omega arith) refl
    (no-packet (Telegram a) in_a) (no-packet (Telegram b) in_b) (ap (λ t. drop 1 t ++ []) same) in
    let dbm = same-known dbm_text (λ byte. byte < 256) a.dbm b.dbm in_a.dbm in_b.dbm
    (λ byte range. strength-differs byte) same-strength dbm_is in
    let dest = same-known id_string (λ id. id < 2 ^ 32) a.dest b.dest in_a.dest in_b.dest (λ id range same. absurd cc)
    same-id dest_is in
    let eep = same-profile a.eep b.eep in_a.eep in_b.eep eep_is in
    let id = same-id a.id b.id in_a.id in_b.id id_is in
    let maker = same-maker a.maker b.maker in_a.maker in_b.maker maker_is in
    let payload = same-bytes a.payload b.payload in_a.payload in_b.payload payload_is in
    let rorg = same-byte a.rorg b.rorg in_a.rorg in_b.rorg (same-quoted _ _ rorg_is) in
    let status = same-byte a.status b.status in_a.status in_b.status (same-quoted _ _ status_is) in (
      λ i. record {
        dbm = dbm i;
        dest = dest i;
        eep = eep i;
        id = id i;
        maker = maker i;
        payload = payload i;
        rorg = rorg i;
        status = status i;
      },
      same-word why by rest,
    )

other-same : (kind size type many : ℕ) (why by : HandlingReason) → (kind < 256) × (size < 2 ^ 16)
    → (type < 256) × (many < 2 ^ 16) → packet_text (record { packet = WithoutTelegram kind size; why = why })
    ≡ packet_text (record { packet = WithoutTelegram type many; why = by }) → (kind ≡ type) × (size ≡ many) × (why ≡ by)
other-same kind size type many why by range in_other same =
    let ((kind_is, (size_is, end)), rest) = values-same 2
    (packet_members (WithoutTelegram kind size) ++ type_and_why_members why)
    (packet_members (WithoutTelegram type many) ++ type_and_why_members by) [] [] (omega arith) (omega arith) refl
    (no-packet (WithoutTelegram kind size) range) (no-packet (WithoutTelegram type many) in_other)
    (ap (λ t. drop 1 t ++ []) same) in (
      decimal_injective kind type (omega (arith, range.0)) (omega (arith, in_other.0)) kind_is,
      decimal_injective size many (omega (arith, range.1)) (omega (arith, in_other.1)) size_is,
      same-word why by rest,
    )

pub one_packet_line : (line other : PacketLine) → HasPacketNumbersInRange line.packet
    → HasPacketNumbersInRange other.packet → packet_text line ≡ packet_text other → line ≡ other
one_packet_line line other = one line.packet other.packet line.why other.why
  where
    one : (a b : ShownPacket) (why by : HandlingReason) → HasPacketNumbersInRange a → HasPacketNumbersInRange b
        → packet_text (record { packet = a; why = why }) ≡ packet_text (record { packet = b; why = by })
        → (let line : PacketLine = record { packet = a; why = why } in line) ≡ record { packet = b; why = by }
    one (Telegram a) (Telegram b) why by in_a in_b same =
        let (shown, reason) = telegram-same a b why by in_a in_b same in
        λ i. record { packet = Telegram (shown i); why = reason i }
    one (WithoutTelegram kind size) (WithoutTelegram type many) why by in_a in_b same =
        let (kinds, sizes, reason) = other-same kind size type many why by in_a in_b same in
        λ i. record { packet = WithoutTelegram (kinds i) (sizes i); why = reason i }
    one (Telegram a) (WithoutTelegram kind size) why by in_a in_b same =
        absurd (eqb-false 100 107 refl (ap (λ (t : List ℕ). slice_index_or t 2 0) same))
    one (WithoutTelegram kind size) (Telegram b) why by in_a in_b same =
        absurd (eqb-false 107 100 refl (ap (λ (t : List ℕ). slice_index_or t 2 0) same))

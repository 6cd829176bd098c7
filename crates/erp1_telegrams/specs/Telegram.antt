-- The telegrams of radio packets (ISO/IEC 14543-3-10; EnOcean Serial Protocol 3, "Packet type 1: RADIO_ERP1").
use Rattle.std.specs.Prelude.{◌≡◌, ℕ, ◌+◌, ◌-◌, ◌==◌, ◌||◌, ◌&&◌, nat_le, List, [], ◌∷◌, ◌++◌, length, slice_index}
use Rattle.std.specs.Prelude.{slice_range, Bool, false, not, IsTrue, if◌then◌else◌, Option, Some, None, Result, Ok, Err}
use Rattle.std.specs.Int.{w32, from_be_bytes, to_be_bytes}
use Rattle.esp3_frames.specs.Packet.{Packet}
use Rattle.erp1_telegrams.specs.declared.telegram.TelegramFault.{TelegramFault}
use Rattle.erp1_telegrams.specs.declared.telegram.TelegramFault.TheVariants.{NotRadio, OtherKind, BadLength}

-- a telegram: its RORG, payload, sender, status and destination, and its signal strength in dBm without the minus sign
pub record Telegram : Type 0 where
  pub rorg : ℕ
  pub payload : List ℕ
  pub sender : ℕ
  pub status : ℕ
  pub dest : ℕ
  pub dbm : Option ℕ

-- the RORGs that are read: RPS, 1BS, 4BS, VLD and UTE (ISO/IEC 14543-3-10, "RORG"). Own choice: no others
abbrev pub is_decoded_rorg : (rorg : ℕ) → Bool
is_decoded_rorg rorg = rorg == 0xF6 || rorg == 0xD5 || rorg == 0xA5 || rorg == 0xD2 || rorg == 0xD4

-- the payload lengths, in bytes, of each RORG (ISO/IEC 14543-3-10, "RORG")
abbrev pub payload_length_fits : (rorg n : ℕ) → Bool
payload_length_fits rorg n =
    if rorg == 0xF6 then n == 1
    else if rorg == 0xD5 then n == 1
    else if rorg == 0xA5 then n == 4
    else if rorg == 0xD2 then nat_le 1 n && nat_le n 14
    else if rorg == 0xD4 then n == 7
    else false

-- the destination in the optional data: the number of subtelegrams, the destination ID, dBm, the security level
-- (EnOcean Serial Protocol 3, "Packet type 1: RADIO_ERP1", optional data). Own choice: shorter data is read as a
-- broadcast
abbrev pub destination : (opt : List ℕ) → ℕ
destination (n ∷ a ∷ b ∷ c ∷ d ∷ dbm ∷ security ∷ more) = from_be_bytes w32 (a ∷ b ∷ c ∷ d ∷ [])
destination opt = 0xFFFF_FFFF

-- dBm in the optional data. Own choice: shorter data has none
abbrev pub dbm_of_optional : (opt : List ℕ) → Option ℕ
dbm_of_optional (n ∷ a ∷ b ∷ c ∷ d ∷ dbm ∷ security ∷ more) = Some dbm
dbm_of_optional opt = None

-- The packet p carries the telegram t (EnOcean Serial Protocol 3, "Packet type 1: RADIO_ERP1"): its data is the RORG,
-- the payload, the four bytes of the sender ID, the high byte first, and the status.
pub record CarriesTelegram (p : Packet) (t : Telegram) : Type 0 where
  pub kind : p.kind ≡ 1
  pub id : List ℕ
  pub four : length id ≡ 4
  pub body : p.body ≡ t.rorg ∷ t.payload ++ id ++ t.status ∷ []
  pub sender : t.sender ≡ from_be_bytes w32 id
  pub length_fits : IsTrue (payload_length_fits t.rorg (length t.payload))
  pub dest : t.dest ≡ destination p.opt
  pub dbm : t.dbm ≡ dbm_of_optional p.opt

-- the telegram in a packet whose data is long enough; all but six bytes of the data are payload
abbrev pub telegram_in : Packet → Telegram
telegram_in p =
    let n = length p.body - 6 in
    record {
      rorg = slice_index p.body 0;
      payload = slice_range p.body 1 (n + 1);
      sender = from_be_bytes w32 (slice_range p.body (n + 1) (n + 5));
      status = slice_index p.body (n + 5);
      dest = destination p.opt;
      dbm = dbm_of_optional p.opt;
    }

-- the telegram that a packet carries, or the first fault. Theorem `telegram_of_packet_is_unique`: it is the only one.
abbrev pub telegram_of : Packet → Result Telegram TelegramFault
telegram_of p =
    if not (p.kind == 1) then Err NotRadio
    else if length p.body == 0 then Err BadLength
    else if not (is_decoded_rorg (slice_index p.body 0)) then Err OtherKind
    else if not (payload_length_fits (slice_index p.body 0) (length p.body - 6)) then Err BadLength
    else Ok (telegram_in p)

-- the packet in which a telegram is sent: 3 subtelegrams, the highest value of dBm, no security (EnOcean Serial
-- Protocol 3, "Packet type 1: RADIO_ERP1", the case "send")
abbrev pub radio_packet : Telegram → Packet
radio_packet t = record {
  kind = 1;
  body = t.rorg ∷ t.payload ++ to_be_bytes w32 t.sender ++ t.status ∷ [];
  opt = 3 ∷ to_be_bytes w32 t.dest ++ 0xFF ∷ 0 ∷ [];
}

-- the maximum length of a packet in which a telegram is sent: 20 bytes of data and 7 of optional data, with a header of
-- 6 bytes and one CRC
abbrev pub max_radio_packet : ℕ
max_radio_packet = 34

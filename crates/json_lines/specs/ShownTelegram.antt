-- The parts of a telegram that a packet line shows.
use Rattle.std.specs.Prelude.{ℕ, ◌==◌, List, Option, Some, None, if◌then◌else◌}
use Rattle.erp1_telegrams.specs.declared.eep.Eep.{Eep}
use Rattle.erp1_telegrams.specs.Telegram.{Telegram}

-- its signal strength, if known; its destination ID, unless it is a broadcast; its sender's profile, if known, ID, and
-- manufacturer ID, if known; its payload, kind and status (ISO/IEC 14543-3-10). Own choice
pub record ShownTelegram : Type 0 where
  pub dbm : Option ℕ
  pub dest : Option ℕ
  pub eep : Option Eep
  pub id : ℕ
  pub maker : Option ℕ
  pub payload : List ℕ
  pub rorg : ℕ
  pub status : ℕ

-- the destination ID of a telegram, unless it is a broadcast
abbrev pub shown_destination : (dest : ℕ) → Option ℕ
shown_destination dest = if dest == 0xFFFF_FFFF then None else Some dest

-- a telegram, and what is known about its sender
abbrev pub shown_of : Telegram → Option Eep → (maker : Option ℕ) → ShownTelegram
shown_of t eep maker = record {
  dbm = t.dbm;
  dest = shown_destination t.dest;
  eep = eep;
  id = t.sender;
  maker = maker;
  payload = t.payload;
  rorg = t.rorg;
  status = t.status;
}

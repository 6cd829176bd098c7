-- Replies to teach-in telegrams (EnOcean Serial Protocol 3, "Packet type 1: RADIO_ERP1", on addressed telegrams).
use Rattle.std.specs.Prelude.{ℕ, List, None}
use Rattle.erp1_telegrams.specs.Telegram.{Telegram}

-- a telegram from the gateway with this base ID, addressed to one sender
abbrev pub addressed_reply : (rorg : ℕ) (payload : List ℕ) (id base : ℕ) → Telegram
addressed_reply rorg payload id base =
    record { rorg = rorg; payload = payload; sender = base; status = 0; dest = id; dbm = None }

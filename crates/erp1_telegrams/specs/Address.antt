-- The gateway's own IDs, and the telegrams that it filters out (EnOcean Serial Protocol 3, "CO_WR_IDBASE").
use Rattle.std.specs.Prelude.{ℕ, ◌+◌, ◌%◌, Bool, ◌==◌, ◌&&◌, ◌||◌, not, nat_le, if◌then◌else◌}
use Rattle.erp1_telegrams.specs.Telegram.{Telegram}
use Rattle.erp1_telegrams.specs.declared.address.FilterReason.{FilterReason}
use Rattle.erp1_telegrams.specs.declared.address.FilterReason.TheVariants.{FromBroadcast, ForOthers}

-- a base ID: the first of the 128 IDs with which a radio module sends
abbrev pub is_base_id : (id : ℕ) → Bool
is_base_id id = nat_le 0xFF80_0000 id && nat_le id 0xFFFF_FF80 && id % 128 == 0

-- one of these 128 IDs
abbrev pub is_gateway_id : (base id : ℕ) → Bool
is_gateway_id base id = nat_le base id && nat_le id (base + 127)

-- own choice: a telegram is filtered out if its sender is the broadcast ID, or if it is neither a broadcast nor
-- addressed to this gateway
abbrev pub is_filtered_out : (base : ℕ) → Telegram → Bool
is_filtered_out base t = t.sender == 0xFFFF_FFFF || not (t.dest == 0xFFFF_FFFF || is_gateway_id base t.dest)

-- why it is filtered out: the sender is checked first. Own choice
abbrev pub filter_reason : Telegram → FilterReason
filter_reason t = if t.sender == 0xFFFF_FFFF then FromBroadcast else ForOthers

-- The base ID that a text spells (EnOcean Serial Protocol 3, "CO_WR_IDBASE"). Own choice: eight digits, in upper or
-- lower case.
use Rattle.std.specs.Prelude.{ℕ, List, if◌then◌else◌, Option, Some, None}
use Rattle.erp1_telegrams.specs.Address.{is_base_id}
use Rattle.desk_orders.specs.Words.{id_in}

abbrev pub if_base_id : Option ℕ → Option ℕ
if_base_id (Some id) = if is_base_id id then Some id else None
if_base_id None = None

-- the ID that eight hexadecimal digits spell, in upper or lower case, if it is a base ID
abbrev pub base_in : (text : List ℕ) → Option ℕ
base_in text = if_base_id (id_in text)

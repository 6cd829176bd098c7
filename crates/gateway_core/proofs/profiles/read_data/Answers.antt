use Rattle.std.proofs.lemmas.Grind.{common_steps}
use Rattle.std.proofs.Common.{arith}
use Rattle.std.proofs.Common.{ℕ}
use Rattle.std.specs.Prelude.{◌==◌, List, Result, if◌then◌else◌}
use Rattle.std.proofs.lemmas.Bool.{ne_eqb}
use Rattle.erp1_telegrams.specs.declared.eep.Eep.{Eep}
use Rattle.erp1_telegrams.specs.Telegram.{Telegram}
use Rattle.profile_rows.specs.Reading.{Entry}
use Rattle.profile_rows.specs.declared.unreadable.Unreadable.{Unreadable}
use Rattle.profiles_rps.specs.Profiles as rps
use Rattle.profiles_4bs.specs.Profiles as four_byte
use Rattle.profiles_vld.specs.Profiles as variable_length
use Rattle.profiles_rps.proofs.ForCallers.{of-no-rows}
use Rattle.gateway_core.proofs.profiles.read_data.Goals as goal

-- the readings of the crate that this RORG chooses
abbrev by_rorg : Eep → Telegram → ℕ → Result (List Entry) Unreadable
by_rorg eep t rorg =
    if rorg == 0xA5 then four_byte.readings_of eep t
    else if rorg == 0xD2 then variable_length.readings_of eep t
    else rps.readings_of eep t

pub returns-in_default : goal.returns-in_default
returns-in_default c = grind (arith, common_steps, ne_eqb, of-no-rows)

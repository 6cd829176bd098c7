-- The readings of telegrams (EnOcean Equipment Profiles 2.6). Own choice: the supported profiles, those of the three
-- crates of profiles.
use Rattle.std.specs.Prelude.{◌==◌, List, Result, if◌then◌else◌}
use Rattle.erp1_telegrams.specs.declared.eep.Eep.{Eep}
use Rattle.erp1_telegrams.specs.Telegram.{Telegram}
use Rattle.profiles_rps.specs.Profiles as rps
use Rattle.profile_rows.specs.Reading.{Entry}
use Rattle.profile_rows.specs.declared.unreadable.Unreadable.{Unreadable}
use Rattle.profiles_4bs.specs.Profiles as four_byte
use Rattle.profiles_vld.specs.Profiles as variable_length

-- the readings of a telegram by this profile, or why there are none; each crate has the profiles of its RORGs
abbrev pub read_by : Eep → Telegram → Result (List Entry) Unreadable
read_by eep t =
    if eep.rorg == 0xA5 then four_byte.readings_of eep t
    else if eep.rorg == 0xD2 then variable_length.readings_of eep t
    else rps.readings_of eep t

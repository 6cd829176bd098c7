-- The readings of 4BS telegrams.
use Rattle.std.specs.Prelude.{ℕ, Bool, List, ◌++◌, is_some, Option, Result}
use Rattle.erp1_telegrams.specs.declared.eep.Eep.{Eep}
use Rattle.erp1_telegrams.specs.Telegram.{Telegram}
use Rattle.profile_rows.specs.Reading.{Entry}
use Rattle.profile_rows.specs.Rows.{Row, entries_of}
use Rattle.profile_rows.specs.Profile.{ProfileGroup, rows_in}
use Rattle.profile_rows.specs.Payload.{checked_data_payload, readings_by}
use Rattle.profile_rows.specs.declared.unreadable.Unreadable.{Unreadable}
use Rattle.profiles_4bs.specs.Temperature.{temperature_profiles}
use Rattle.profiles_4bs.specs.Humidity.{humidity_profiles}
use Rattle.profiles_4bs.specs.Light.{light_profiles}
use Rattle.profiles_4bs.specs.Occupancy.{occupancy_profiles}
use Rattle.profiles_4bs.specs.LightTemperatureOccupancy.{light_temperature_occupancy_profiles}
use Rattle.profiles_4bs.specs.Gas.{gas_profiles}
use Rattle.profiles_4bs.specs.RoomOperatingPanel.{room_operating_panel_profiles}
use Rattle.profiles_4bs.specs.Meter.{meter_profiles}

-- the supported profiles (own choice), and their rows
abbrev pub all_profiles : List ProfileGroup
all_profiles =
    temperature_profiles
    ++ humidity_profiles
    ++ light_profiles
    ++ occupancy_profiles
    ++ light_temperature_occupancy_profiles
    ++ gas_profiles
    ++ room_operating_panel_profiles
    ++ meter_profiles

-- the profile A5-FUNC-TYPE
abbrev pub four_bs_profile : (func typ : ℕ) → Eep
four_bs_profile func typ = record { rorg = 0xA5; func = func; typ = typ }

-- the rows of a profile, if it is supported
unfoldable pub rows_of : Eep → Option (List Row)
rows_of eep = rows_in all_profiles eep

-- a profile is supported if it has rows
abbrev pub supported : Eep → Bool
supported eep = is_some (rows_of eep)

-- the readings of a telegram by a profile, or the first reason to reject it
abbrev pub readings_of : Eep → Telegram → Result (List Entry) Unreadable
readings_of eep t = readings_by entries_of (rows_of eep) (checked_data_payload eep.rorg 4 t)

-- The room operating panels (EnOcean Equipment Profiles 2.6, "A5-10: Room Operating Panel").
use Rattle.std.specs.Prelude.{pos, List, [], ◌∷◌, ◌++◌, codes}
use Rattle.profile_rows.specs.Rows.{Row, range, words, number, always}
use Rattle.profile_rows.specs.Profile.{ProfileGroup}
use Rattle.profiles_4bs.specs.OccupancyButton.{pressed_or_released}

-- the set point as the number itself, and the temperature, whose number falls from 255 to 0 as it rises
abbrev pub set_point_and_temperature : List Row
set_point_and_temperature =
    record { name = codes "SP"; offset = 8; len = 8; condition = always; kind = number }
    ∷ record {
      name = codes "TMP";
      offset = 16;
      len = 8;
      condition = always;
      kind = range 255 0 (pos 0) (pos 400) (codes "C");
    }
    ∷ []

-- the same, and the occupancy button
abbrev pub set_point_temperature_and_button : List Row
set_point_temperature_and_button =
    set_point_and_temperature
    ++ record { name = codes "OCC"; offset = 31; len = 1; condition = always; kind = words pressed_or_released }
    ∷ []

-- A5-10-03, A5-10-05
abbrev pub room_operating_panel_profiles : List ProfileGroup
room_operating_panel_profiles =
    record { rorg = 0xA5; func = 0x10; types = 0x03 ∷ []; rows = set_point_and_temperature }
    ∷ record { rorg = 0xA5; func = 0x10; types = 0x05 ∷ []; rows = set_point_temperature_and_button }
    ∷ []

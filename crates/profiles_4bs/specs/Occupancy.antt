-- The occupancy sensor (EnOcean Equipment Profiles 2.6, "A5-07: Occupancy Sensor").
use Rattle.std.specs.Prelude.{pos, List, [], ◌∷◌, codes}
use Rattle.profile_rows.specs.Rows.{Row, range, threshold, always, field_equals}
use Rattle.profile_rows.specs.Profile.{ProfileGroup}

-- the supply voltage if it is available, and whether there is motion
abbrev pub voltage_and_motion : List Row
voltage_and_motion =
    record {
      name = codes "SVC";
      offset = 0;
      len = 8;
      condition = field_equals 31 1 1;
      kind = range 0 250 (pos 0) (pos 50) (codes "V");
    }
    ∷ record {
      name = codes "PIRS";
      offset = 16;
      len = 8;
      condition = always;
      kind = threshold 128 (codes "off") (codes "on");
    }
    ∷ []

-- A5-07-01
abbrev pub occupancy_profiles : List ProfileGroup
occupancy_profiles = record { rorg = 0xA5; func = 0x07; types = 0x01 ∷ []; rows = voltage_and_motion } ∷ []

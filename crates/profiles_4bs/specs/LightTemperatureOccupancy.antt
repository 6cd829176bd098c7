-- The light, temperature and occupancy sensors (EnOcean Equipment Profiles 2.6, "A5-08: Light, Temperature and
-- Occupancy Sensor").
use Rattle.std.specs.Prelude.{ℕ, ℤ, pos, List, [], ◌∷◌, codes}
use Rattle.profile_rows.specs.Rows.{Row, range, words, always}
use Rattle.profile_rows.specs.Profile.{ProfileGroup}
use Rattle.profiles_4bs.specs.Tenths.{minus}
use Rattle.profiles_4bs.specs.OccupancyButton.{pressed_or_released}

-- the words of the motion sensor
abbrev pub motion_words : List (ℕ × List ℕ)
motion_words = (0, codes "on") ∷ (1, codes "off") ∷ []

-- the supply voltage, the light up to a bound, the temperature between two bounds, the motion and the occupancy button;
-- the bounds are in tenths
abbrev pub light_temperature_occupancy_rows : (brightest coldest hottest : ℤ) → List Row
light_temperature_occupancy_rows brightest coldest hottest =
    record {
      name = codes "SVC";
      offset = 0;
      len = 8;
      condition = always;
      kind = range 0 255 (pos 0) (pos 51) (codes "V");
    }
    ∷ record {
      name = codes "ILL";
      offset = 8;
      len = 8;
      condition = always;
      kind = range 0 255 (pos 0) brightest (codes "lx");
    }
    ∷ record {
      name = codes "TMP";
      offset = 16;
      len = 8;
      condition = always;
      kind = range 0 255 coldest hottest (codes "C");
    }
    ∷ record { name = codes "PIRS"; offset = 30; len = 1; condition = always; kind = words motion_words }
    ∷ record { name = codes "OCC"; offset = 31; len = 1; condition = always; kind = words pressed_or_released }
    ∷ []

-- A5-08-01: up to 510 lx, 0 to 51 C, A5-08-02: up to 1020 lx, 0 to 51 C, A5-08-03: up to 1530 lx, -30 to 50 C
abbrev pub light_temperature_occupancy_profiles : List ProfileGroup
light_temperature_occupancy_profiles =
    record {
      rorg =
          0xA5;
      func = 0x08;
      types = 0x01 ∷ [];
      rows = light_temperature_occupancy_rows (pos 5100) (pos 0) (pos 510);
    }
    ∷ record {
      rorg = 0xA5;
      func = 0x08;
      types = 0x02 ∷ [];
      rows = light_temperature_occupancy_rows (pos 10200) (pos 0)
          (pos 510);
    }
    ∷ record {
      rorg = 0xA5;
      func = 0x08;
      types = 0x03 ∷ [];
      rows = light_temperature_occupancy_rows (pos 15300)
          (minus 300) (pos 500);
    }
    ∷ []

-- The temperature and humidity sensors (EnOcean Equipment Profiles 2.6, "A5-04: Temperature and Humidity Sensor").
use Rattle.std.specs.Prelude.{ℤ, pos, List, [], ◌∷◌, codes}
use Rattle.profile_rows.specs.Rows.{Row, range, always, field_equals}
use Rattle.profile_rows.specs.Profile.{ProfileGroup}
use Rattle.profiles_4bs.specs.Tenths.{minus}

-- the humidity, and the temperature between two bounds, in tenths, if there is a temperature sensor
abbrev pub humidity_and_temperature : (coldest hottest : ℤ) → List Row
humidity_and_temperature coldest hottest =
    record {
      name = codes "HUM";
      offset = 8;
      len = 8;
      condition = always;
      kind = range 0 250 (pos 0) (pos 1000) (codes "%");
    }
    ∷ record {
      name = codes "TMP";
      offset = 16;
      len = 8;
      condition = field_equals 30 1 1;
      kind = range 0 250 coldest hottest (codes "C");
    }
    ∷ []

-- A5-04-01: 0 to 40 C, A5-04-02: -20 to 60 C
abbrev pub humidity_profiles : List ProfileGroup
humidity_profiles =
    record { rorg = 0xA5; func = 0x04; types = 0x01 ∷ []; rows = humidity_and_temperature (pos 0) (pos 400) }
    ∷ record { rorg = 0xA5; func = 0x04; types = 0x02 ∷ []; rows = humidity_and_temperature (minus 200) (pos 600) }
    ∷ []

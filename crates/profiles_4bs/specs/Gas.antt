-- The gas sensor (EnOcean Equipment Profiles 2.6, "A5-09: Gas Sensor"; its rows are an own choice).
use Rattle.std.specs.Prelude.{pos, List, [], ◌∷◌, codes}
use Rattle.profile_rows.specs.Rows.{Row, range, always, field_equals}
use Rattle.profile_rows.specs.Profile.{ProfileGroup}

-- the concentration of CO2, with the humidity and the temperature if there are sensors for these
abbrev pub carbon_dioxide : List Row
carbon_dioxide =
    record {
      name = codes "HUM";
      offset = 0;
      len = 8;
      condition = field_equals 29 1 1;
      kind = range 0 200 (pos 0) (pos 1000) (codes "%");
    }
    ∷ record {
      name = codes "CONC";
      offset = 8;
      len = 8;
      condition = always;
      kind = range 0 255 (pos 0) (pos 25500) (codes "ppm");
    }
    ∷ record {
      name = codes "TMP";
      offset = 16;
      len = 8;
      condition = field_equals 30 1 1;
      kind = range 0 255 (pos 0) (pos 510) (codes "C");
    }
    ∷ []

-- A5-09-04
abbrev pub gas_profiles : List ProfileGroup
gas_profiles = record { rorg = 0xA5; func = 0x09; types = 0x04 ∷ []; rows = carbon_dioxide } ∷ []

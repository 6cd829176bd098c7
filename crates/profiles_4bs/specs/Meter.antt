-- The meters (EnOcean Equipment Profiles 2.6, "A5-12: Automated Meter Reading (AMR)"; their rows are an own choice).
use Rattle.std.specs.Prelude.{ℕ, List, [], ◌∷◌, codes}
use Rattle.profile_rows.specs.Rows.{Row, over_power, number, always, field_equals}
use Rattle.profile_rows.specs.Profile.{ProfileGroup}

-- The meter reading divided by ten to the power of the field of two bits at offset 30, and the tariff as the number
-- itself. The bit at offset 29 selects the unit: that of a cumulative value, or that of a current one
abbrev pub reading_and_tariff : (cumulative current : List ℕ) → List Row
reading_and_tariff cumulative current =
    record {
      name = codes "MR";
      offset = 0;
      len = 24;
      condition = field_equals 29 1 0;
      kind = over_power 30 2 cumulative;
    }
    ∷ record {
      name = codes "MR";
      offset = 0;
      len = 24;
      condition = field_equals 29 1 1;
      kind = over_power 30 2 current;
    }
    ∷ record { name = codes "TI"; offset = 24; len = 4; condition = always; kind = number }
    ∷ []

-- A5-12-01: electricity, A5-12-02: gas, A5-12-03: water
abbrev pub meter_profiles : List ProfileGroup
meter_profiles =
    record { rorg = 0xA5; func = 0x12; types = 0x01 ∷ []; rows = reading_and_tariff (codes "kWh") (codes "W") }
    ∷ record {
      rorg = 0xA5;
      func = 0x12;
      types = 0x02 ∷ 0x03 ∷ [];
      rows = reading_and_tariff (codes "m3") (codes "l/s");
    }
    ∷ []

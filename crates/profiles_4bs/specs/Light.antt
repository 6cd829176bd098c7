-- The light sensors (EnOcean Equipment Profiles 2.6, "A5-06: Light Sensor").
use Rattle.std.specs.Prelude.{ℤ, pos, List, [], ◌∷◌, codes}
use Rattle.profile_rows.specs.Rows.{Row, range, always, field_equals}
use Rattle.profile_rows.specs.Profile.{ProfileGroup}

-- the supply voltage, and the one of two illuminations that the range select chooses: first the bounds of ILL2, then
-- those of ILL1, in tenths
abbrev pub voltage_and_light : (darkest2 brightest2 darkest1 brightest1 : ℤ) → List Row
voltage_and_light darkest2 brightest2 darkest1 brightest1 =
    record {
      name = codes "SVC";
      offset = 0;
      len = 8;
      condition = always;
      kind = range 0 255 (pos 0) (pos 51) (codes "V");
    }
    ∷ record {
      name = codes "ILL2";
      offset = 8;
      len = 8;
      condition = field_equals 31 1 1;
      kind = range 0 255 darkest2 brightest2 (codes "lx");
    }
    ∷ record {
      name = codes "ILL1";
      offset = 16;
      len = 8;
      condition = field_equals 31 1 0;
      kind = range 0 255 darkest1 brightest1 (codes "lx");
    }
    ∷ []

-- A5-06-01: ILL2 of 300 to 30000 lx and ILL1 of 600 to 60000 lx, A5-06-02: 0 to 510 lx and 0 to 1020 lx
abbrev pub light_profiles : List ProfileGroup
light_profiles =
    record {
      rorg = 0xA5;
      func = 0x06;
      types = 0x01 ∷ [];
      rows = voltage_and_light (pos 3000) (pos 300000) (pos 6000) (pos 600000);
    }
    ∷ record {
      rorg = 0xA5;
      func = 0x06;
      types = 0x02 ∷ [];
      rows = voltage_and_light (pos 0) (pos 5100) (pos 0) (pos 10200);
    }
    ∷ []

-- The temperature sensors (EnOcean Equipment Profiles 2.6, "A5-02: Temperature Sensors").
use Rattle.std.specs.Prelude.{ℕ, ◌-◌, ◌*◌, ℤ, pos, ◌+ℤ◌, ◌-ℤ◌, List, [], ◌∷◌, ◌++◌, map, codes}
use Rattle.profile_rows.specs.Rows.{Row, range, always}
use Rattle.profile_rows.specs.Profile.{ProfileGroup}
use Rattle.profiles_4bs.specs.Tenths.{minus}

-- a number of 8 bits, which falls from 255 to 0 as the temperature rises between two bounds, in tenths
abbrev pub temperature_of_8_bits : (coldest hottest : ℤ) → List Row
temperature_of_8_bits coldest hottest =
    record {
      name = codes "TMP";
      offset = 16;
      len = 8;
      condition = always;
      kind = range 255 0 coldest hottest (codes "C");
    }
    ∷ []

-- a number of 10 bits, which falls from 1023 to 0 in the same way
abbrev pub temperature_of_10_bits : (coldest hottest : ℤ) → List Row
temperature_of_10_bits coldest hottest =
    record {
      name = codes "TMP";
      offset = 14;
      len = 10;
      condition = always;
      kind = range 1023 0 coldest hottest (codes "C");
    }
    ∷ []

-- A5-02-01: -40 to 0 C; for each further type both bounds are 10 C higher
abbrev pub profile_spanning_40_degrees : (typ : ℕ) → ProfileGroup
profile_spanning_40_degrees typ =
    let more = pos (100 * (typ - 0x01)) in
    record { rorg = 0xA5; func = 0x02; types = typ ∷ []; rows = temperature_of_8_bits (more -ℤ pos 400) more }

-- A5-02-10: -60 to 20 C; for each further type both bounds are 10 C higher
abbrev pub profile_spanning_80_degrees : (typ : ℕ) → ProfileGroup
profile_spanning_80_degrees typ =
    let more = pos (100 * (typ - 0x10)) in
    record {
      rorg =
          0xA5;
      func = 0x02;
      types = typ ∷ [];
      rows = temperature_of_8_bits (more -ℤ pos 600) (more +ℤ pos 200);
    }

-- A5-02-01 to A5-02-0B
abbrev pub profiles_spanning_40_degrees : List ProfileGroup
profiles_spanning_40_degrees =
    map profile_spanning_40_degrees (0x01 ∷ 0x02 ∷ 0x03 ∷ 0x04 ∷ 0x05 ∷ 0x06 ∷ 0x07 ∷ 0x08 ∷ 0x09 ∷ 0x0A ∷ 0x0B ∷ [])

-- A5-02-10 to A5-02-1B
abbrev pub profiles_spanning_80_degrees : List ProfileGroup
profiles_spanning_80_degrees =
    map profile_spanning_80_degrees
    (0x10 ∷ 0x11 ∷ 0x12 ∷ 0x13 ∷ 0x14 ∷ 0x15 ∷ 0x16 ∷ 0x17 ∷ 0x18 ∷ 0x19 ∷ 0x1A ∷ 0x1B ∷ [])

-- A5-02-20: -10 to 41.2 C, A5-02-30: -40 to 62.3 C
abbrev pub profiles_of_10_bits : List ProfileGroup
profiles_of_10_bits =
    record { rorg = 0xA5; func = 0x02; types = 0x20 ∷ []; rows = temperature_of_10_bits (minus 100) (pos 412) }
    ∷ record { rorg = 0xA5; func = 0x02; types = 0x30 ∷ []; rows = temperature_of_10_bits (minus 400) (pos 623) }
    ∷ []

abbrev pub temperature_profiles : List ProfileGroup
temperature_profiles = profiles_spanning_40_degrees ++ profiles_spanning_80_degrees ++ profiles_of_10_bits

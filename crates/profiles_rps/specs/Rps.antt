-- The rows of the RPS profiles (EnOcean Equipment Profiles 2.6, "RPS Telegram").
use Rattle.std.specs.Prelude.{ℕ, List, [], ◌∷◌, codes}
use Rattle.profile_rows.specs.Rows.{Row, words, number, always, field_equals, nu_equals, both}

-- the words of a button, and of the energy bow
abbrev pub released_or_pressed : List (ℕ × List ℕ)
released_or_pressed = (0, codes "released") ∷ (1, codes "pressed") ∷ []

-- F6-01-01: Switch Buttons, Push Button
abbrev pub push_button : List Row
push_button =
    record { name = codes "PB"; offset = 3; len = 1; condition = always; kind = words released_or_pressed }
    ∷ []

-- the rockers A and B
abbrev pub rockers_ab : List (ℕ × List ℕ)
rockers_ab = (0, codes "AI") ∷ (1, codes "A0") ∷ (2, codes "BI") ∷ (3, codes "B0") ∷ []

-- the number of pressed buttons of a switch with two rockers
abbrev pub none_or_three : List (ℕ × List ℕ)
none_or_three = (0, codes "none") ∷ (3, codes "three_or_four") ∷ []

-- F6-02-01 and F6-02-02: Rocker Switch, 2 Rocker
abbrev pub two_rockers : List Row
two_rockers =
    record { name = codes "R1"; offset = 0; len = 3; condition = nu_equals 1; kind = words rockers_ab }
    ∷ record { name = codes "buttons"; offset = 0; len = 3; condition = nu_equals 0; kind = words none_or_three }
    ∷ record { name = codes "EB"; offset = 3; len = 1; condition = always; kind = words released_or_pressed }
    ∷ record {
      name = codes "R2";
      offset = 4;
      len = 3;
      condition = both (nu_equals 1) (field_equals 7 1 1);
      kind = words rockers_ab;
    }
    ∷ []

-- the rockers A to D
abbrev pub rockers_abcd : List (ℕ × List ℕ)
rockers_abcd =
    (0, codes "AI") ∷ (1, codes "A0") ∷ (2, codes "BI") ∷ (3, codes "B0")
    ∷ (4, codes "CI") ∷ (5, codes "C0") ∷ (6, codes "DI") ∷ (7, codes "D0")
    ∷ []

-- F6-03-01 and F6-03-02: Rocker Switch, 4 Rocker. Own choice: the number of pressed buttons is reported as the number
-- itself
abbrev pub four_rockers : List Row
four_rockers =
    record { name = codes "R1"; offset = 0; len = 3; condition = nu_equals 1; kind = words rockers_abcd }
    ∷ record { name = codes "buttons"; offset = 0; len = 3; condition = nu_equals 0; kind = number }
    ∷ record { name = codes "EB"; offset = 3; len = 1; condition = always; kind = words released_or_pressed }
    ∷ record {
      name = codes "R2";
      offset = 4;
      len = 3;
      condition = both (nu_equals 1) (field_equals 7 1 1);
      kind = words rockers_abcd;
    }
    ∷ []

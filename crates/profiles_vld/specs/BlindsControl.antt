-- The rows of the D2-05-00 message that is decoded (EnOcean Equipment Profiles 2.6, "D2-05-00", the command 4: Blinds
-- Control for Position and Angle).
use Rattle.std.specs.Prelude.{List, [], ◌∷◌, codes}
use Rattle.profile_rows.specs.Rows.{Row, percent_or_word_127, number, always}

-- Reply Position and Angle (CMD 4): position, angle, locking mode, channel
abbrev pub position_and_angle : List Row
position_and_angle =
    record { name = codes "POS"; offset = 1; len = 7; condition = always; kind = percent_or_word_127 (codes "unknown") }
    ∷ record {
      name = codes "ANG";
      offset = 9;
      len = 7;
      condition = always;
      kind = percent_or_word_127
          (codes "unknown");
    }
    ∷ record { name = codes "LOCK"; offset = 21; len = 3; condition = always; kind = number }
    ∷ record { name = codes "CHN"; offset = 24; len = 4; condition = always; kind = number }
    ∷ []

-- The rows of the D2-01 messages that are decoded (EnOcean Equipment Profiles 2.6, "D2-01", the commands 4 and 7:
-- Electronic Switches and Dimmers with Local Control). Own choice: these rows apply to all types of D2-01.
use Rattle.std.specs.Prelude.{ℕ, List, [], ◌∷◌, codes}
use Rattle.profile_rows.specs.Rows.{Row, words, percent_or_word_127, over, number, reserved, always, field_equals}
use Rattle.profile_rows.specs.Rows.{field_above}

-- the words of the error level
abbrev pub error_levels : List (ℕ × List ℕ)
error_levels = (0, codes "ok") ∷ (1, codes "warning") ∷ (2, codes "failure") ∷ (3, codes "not_supported") ∷ []

-- Actuator Status Response (CMD 4): power failure, power failure detection, over current switch off, error level,
-- channel, local control, output value
abbrev pub status_response : List Row
status_response =
    record { name = codes "PF"; offset = 0; len = 1; condition = always; kind = number }
    ∷ record { name = codes "PFD"; offset = 1; len = 1; condition = always; kind = number }
    ∷ record { name = codes "OC"; offset = 8; len = 1; condition = always; kind = number }
    ∷ record { name = codes "EL"; offset = 9; len = 2; condition = always; kind = words error_levels }
    ∷ record { name = codes "IO"; offset = 11; len = 5; condition = always; kind = number }
    ∷ record { name = codes "LC"; offset = 16; len = 1; condition = always; kind = number }
    ∷ record {
      name = codes "OV";
      offset = 17;
      len = 7;
      condition = always;
      kind = percent_or_word_127
          (codes "not_applicable");
    }
    ∷ []

-- the measured value if the field UN has this number, in the unit of that number
abbrev pub measured_in : (un : ℕ) (unit : List ℕ) → Row
measured_in un unit =
    record { name = codes "MV"; offset = 16; len = 32; condition = field_equals 8 3 un; kind = over 1 unit }

-- Actuator Measurement Response (CMD 7): channel, unit, measured value. The units above 4 are reserved: with these the
-- measured value is a number without a unit (own choice)
abbrev pub measurement_response : List Row
measurement_response =
    record { name = codes "IO"; offset = 11; len = 5; condition = always; kind = number }
    ∷ record { name = codes "UN"; offset = 8; len = 3; condition = field_above 8 3 4; kind = reserved }
    ∷ measured_in 0 (codes "Ws")
    ∷ measured_in 1 (codes "Wh")
    ∷ measured_in 2 (codes "kWh")
    ∷ measured_in 3 (codes "W")
    ∷ measured_in 4 (codes "kW")
    ∷ record { name = codes "MV"; offset = 16; len = 32; condition = field_above 8 3 4; kind = number }
    ∷ []

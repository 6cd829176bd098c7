-- The rows of the 1BS profiles (EnOcean Equipment Profiles 2.6, "1BS Telegram").
use Rattle.std.specs.Prelude.{ℕ, List, [], ◌∷◌, codes}
use Rattle.profile_rows.specs.Rows.{Row, words, field_equals}

-- the words of a contact
abbrev pub open_or_closed : List (ℕ × List ℕ)
open_or_closed = (0, codes "open") ∷ (1, codes "closed") ∷ []

-- D5-00-01: Contacts and Switches, Single Input Contact
abbrev pub single_contact : List Row
single_contact =
    record { name = codes "CO"; offset = 7; len = 1; condition = field_equals 4 1 1; kind = words open_or_closed }
    ∷ []

-- The readings of RPS and 1BS telegrams.
use Rattle.std.specs.Prelude.{ℕ, Bool, List, [], ◌∷◌, is_some, Option, Result}
use Rattle.erp1_telegrams.specs.declared.eep.Eep.{Eep}
use Rattle.erp1_telegrams.specs.Telegram.{Telegram}
use Rattle.profile_rows.specs.Reading.{Entry}
use Rattle.profile_rows.specs.Rows.{Row, rows_entries}
use Rattle.profile_rows.specs.Profile.{ProfileGroup, rows_in}
use Rattle.profile_rows.specs.Payload.{checked_data_payload, readings_by}
use Rattle.profile_rows.specs.declared.unreadable.Unreadable.{Unreadable}
use Rattle.profiles_rps.specs.Rps.{push_button, two_rockers, four_rockers}
use Rattle.profiles_rps.specs.OneBs.{single_contact}

-- the supported profiles (own choice), and their rows
abbrev pub all_profiles : List ProfileGroup
all_profiles =
    record { rorg = 0xF6; func = 0x01; types = 0x01 ∷ []; rows = push_button }
    ∷ record { rorg = 0xF6; func = 0x02; types = 0x01 ∷ 0x02 ∷ []; rows = two_rockers }
    ∷ record { rorg = 0xF6; func = 0x03; types = 0x01 ∷ 0x02 ∷ []; rows = four_rockers }
    ∷ record { rorg = 0xD5; func = 0x00; types = 0x01 ∷ []; rows = single_contact }
    ∷ []

-- the profiles F6-FUNC-TYPE and D5-FUNC-TYPE
abbrev pub rps_profile : (func typ : ℕ) → Eep
rps_profile func typ = record { rorg = 0xF6; func = func; typ = typ }

abbrev pub one_bs_profile : (func typ : ℕ) → Eep
one_bs_profile func typ = record { rorg = 0xD5; func = func; typ = typ }

-- the rows of a profile, if it is supported
unfoldable pub rows_of : Eep → Option (List Row)
rows_of eep = rows_in all_profiles eep

-- a profile is supported if it has rows
abbrev pub supported : Eep → Bool
supported eep = is_some (rows_of eep)

-- the readings of a telegram by a profile, or the first reason to reject it
abbrev pub readings_of : Eep → Telegram → Result (List Entry) Unreadable
readings_of eep t = readings_by (rows_entries t.status) (rows_of eep) (checked_data_payload eep.rorg 1 t)

-- The data of a telegram, and the readings of a profile in it.
use Rattle.std.specs.Prelude.{ℕ, Bool, true, List, length, not, ◌==◌, if◌then◌else◌, Option, Some, None, Result}
use Rattle.std.specs.Prelude.{Ok, Err}
use Rattle.bit_fields.specs.Bits.{field}
use Rattle.erp1_telegrams.specs.Telegram.{Telegram}
use Rattle.profile_rows.specs.Reading.{Entry}
use Rattle.profile_rows.specs.Rows.{Row}
use Rattle.profile_rows.specs.declared.unreadable.Unreadable.{Unreadable}
use Rattle.profile_rows.specs.declared.unreadable.Unreadable.TheVariants as refusals

-- A payload of this RORG is data, not teach-in: for 1BS and 4BS the LRN bit is 1, and the others have no LRN bit
-- (EnOcean Equipment Profiles 2.6, "RPS Telegram", "1BS Telegram" and "4BS Telegram").
abbrev pub is_data : (rorg : ℕ) (payload : List ℕ) → Bool
is_data rorg payload =
    if rorg == 0xD5 then field payload 4 1 == 1
    else if rorg == 0xA5 then field payload 28 1 == 1
    else true

-- the payload, of n bytes, of a data telegram with this RORG, or the first reason to reject it (own choice: their
-- order)
abbrev pub checked_data_payload : (rorg n : ℕ) → Telegram → Result (List ℕ) Unreadable
checked_data_payload rorg n t =
    if not (t.rorg == rorg) then Err refusals.WrongKind
    else if not (length t.payload == n) then Err refusals.WrongLength
    else if not (is_data rorg t.payload) then Err refusals.OtherMessage
    else Ok t.payload

-- the readings of a telegram by a profile: what its rows read in the payload, which is `reads`, or the first reason to
-- reject it. Own choice: the first reason is that the profile has no rows
abbrev pub readings_by :
    (List ℕ → List Row → List Entry) → Option (List Row) → Result (List ℕ) Unreadable → Result (List Entry) Unreadable
readings_by reads None payload = Err refusals.NotSupported
readings_by reads (Some rows) (Ok payload) = Ok (reads payload rows)
readings_by reads (Some rows) (Err refusal) = Err refusal

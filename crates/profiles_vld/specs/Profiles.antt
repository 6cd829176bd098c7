-- The readings of VLD telegrams.
use Rattle.std.specs.Prelude.{ℕ, Bool, List, is_some, not, ◌==◌, ◌&&◌, nat_le, length, if◌then◌else◌, Option, Some}
use Rattle.std.specs.Prelude.{None, Result, Ok, Err}
use Rattle.std.specs.Option.{option_map_or}
use Rattle.bit_fields.specs.Bits.{field}
use Rattle.erp1_telegrams.specs.declared.eep.Eep.{Eep}
use Rattle.erp1_telegrams.specs.Telegram.{Telegram}
use Rattle.profile_rows.specs.Reading.{Entry}
use Rattle.profile_rows.specs.declared.unreadable.Unreadable.{Unreadable}
use Rattle.profile_rows.specs.declared.unreadable.Unreadable.TheVariants as unreadable
use Rattle.profile_rows.specs.Rows.{entries_of}
use Rattle.profiles_vld.specs.Payload.{entries_if_length}
use Rattle.profiles_vld.specs.ElectronicSwitches.{status_response, measurement_response}
use Rattle.profiles_vld.specs.BlindsControl.{position_and_angle}

-- the readings of a payload by D2-01; the field CMD is in the first byte (EnOcean Equipment Profiles 2.6, "D2-01"). Own
-- choice: a wrong command is rejected before a wrong length
abbrev pub electronic_switch_readings : (payload : List ℕ) → Result (List Entry) Unreadable
electronic_switch_readings payload =
    if field payload 4 4 == 4 then entries_if_length 3 payload status_response
    else if field payload 4 4 == 7 then entries_if_length 6 payload measurement_response
    else Err unreadable.OtherMessage

-- the readings of a payload by D2-05-00; the field CMD of a reply is in the fourth byte (EnOcean Equipment Profiles
-- 2.6, "D2-05-00"). Own choice: a wrong length is rejected before a wrong command
abbrev pub blinds_control_readings : (payload : List ℕ) → Result (List Entry) Unreadable
blinds_control_readings payload =
    if not (length payload == 4) then Err unreadable.WrongLength
    else if not (field payload 28 4 == 4) then Err unreadable.OtherMessage
    else Ok (entries_of payload position_and_angle)

-- the supported profiles (own choice), D2-01-00 to D2-01-12 and D2-05-00, and the readings of a payload by each
abbrev pub payload_readings_of : Eep → Option (List ℕ → Result (List Entry) Unreadable)
payload_readings_of eep =
    if eep.rorg == 0xD2 && eep.func == 0x01 && nat_le eep.typ 0x12 then Some electronic_switch_readings
    else if eep.rorg == 0xD2 && eep.func == 0x05 && eep.typ == 0x00 then Some blinds_control_readings
    else None

-- the profile D2-FUNC-TYPE
abbrev pub vld_profile : (func typ : ℕ) → Eep
vld_profile func typ = record { rorg = 0xD2; func = func; typ = typ }

-- a profile is supported if it has readings
abbrev pub supported : Eep → Bool
supported eep = is_some (payload_readings_of eep)

-- the readings of a telegram with this RORG by a profile, or the first reason to reject it
abbrev pub read_if_rorg : (rorg : ℕ) → (List ℕ → Result (List Entry) Unreadable) → Telegram
    → Result (List Entry) Unreadable
read_if_rorg rorg says t = if not (t.rorg == rorg) then Err unreadable.WrongKind else says t.payload

-- the readings of a telegram by a profile, or the first reason to reject it (own choice: the order of the reasons)
abbrev pub readings_of : Eep → Telegram → Result (List Entry) Unreadable
readings_of eep t =
    option_map_or (λ says. read_if_rorg eep.rorg says t) (payload_readings_of eep) (Err unreadable.NotSupported)

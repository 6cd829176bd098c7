-- The readings of rows in the payload of a message.
use Rattle.std.specs.Prelude.{ℕ, List, length, ◌==◌, if◌then◌else◌, Result, Ok, Err}
use Rattle.profile_rows.specs.Reading.{Entry}
use Rattle.profile_rows.specs.Rows.{Row, entries_of}
use Rattle.profile_rows.specs.declared.unreadable.Unreadable.{Unreadable}
use Rattle.profile_rows.specs.declared.unreadable.Unreadable.TheVariants as unreadable

-- the readings of rows in a payload of this length, in bytes; any other length is rejected
abbrev pub entries_if_length : ℕ → (payload : List ℕ) → List Row → Result (List Entry) Unreadable
entries_if_length n payload rows =
    if length payload == n then Ok (entries_of payload rows) else Err unreadable.WrongLength

-- The result of a call that reads a telegram, and the readings that it leaves.
use Rattle.std.specs.Prelude.{Bool, List, if◌then◌else◌, Option, Some, None, Result, Ok, Err}
use Rattle.profile_rows.specs.Reading.{Entry, entries}
use Rattle.profile_rows.specs.declared.reading.Reading.{Reading}
use Rattle.profile_rows.specs.declared.unreadable.Unreadable.{Unreadable}

-- an error, or the readings that the call leaves
abbrev pub read_result : Result (Unit {0}) Unreadable → List Reading → Result (List Entry) Unreadable
read_result (Ok done) readings = Ok (entries readings)
read_result (Err refusal) readings = Err refusal

-- the readings that the call leaves, if it has read some
abbrev pub entries_if : (has_read : Bool) → List Reading → Option (List Entry)
entries_if has_read readings = if has_read then Some (entries readings) else None

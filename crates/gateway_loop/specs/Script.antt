-- The events of the bytes of a script. Own choice.
use Rattle.std.specs.Prelude.{◌≡◌, ◌≢◌, ◌⊎◌, ◌&&◌, if◌then◌else◌, ℕ, nat_eq, nat_le, List, [], ◌∷◌, ◌++◌, All, length}
use Rattle.std.specs.Prelude.{drop, map, codes, Result, Ok, Err}
use Rattle.std.specs.List.{starts_with}
use Rattle.std.specs.Str.Lines.{lines}
use Rattle.hex.specs.Hex.{decode_of}
use Rattle.hex.specs.declared.error.FromHexError.{FromHexError}
use Rattle.desk_orders.specs.Limits.{max_line}
use Rattle.gateway_core.specs.Events.{InputEvent, Chunk, Line}

-- the bytes that the digits of a line spell, or otherwise the line
abbrev pub chunk_if_decoded : (line : List ℕ) → Result (List ℕ) FromHexError → InputEvent
chunk_if_decoded line (Ok bytes) = Chunk bytes
chunk_if_decoded line (Err fault) = Line line

-- `S`, one space and an even number of hexadecimal digits are a serial chunk, unless the line is too long
abbrev pub event_of_script_line : (line : List ℕ) → InputEvent
event_of_script_line line =
    if nat_le (length line) max_line && starts_with nat_eq line (codes "S ") then chunk_if_decoded line
    (decode_of (drop 2 line))
    else Line line

-- a line ends with LF, or CR LF, or the end of the script
abbrev pub script : (input : List ℕ) → List InputEvent
script input = map event_of_script_line (lines input)

-- it contains no LF
abbrev pub HasNoLf : (bytes : List ℕ) → Type 0
HasNoLf bytes = All (λ byte. byte ≢ 10) bytes

-- a line, with LF after it
abbrev pub with_lf : (line : List ℕ) → List ℕ
with_lf line = line ++ 10 ∷ []

-- `ended` is what was read up to and including its last LF
pub record HasPartToLastLf (input ended : List ℕ) : Type 0 where
  pub tail : List ℕ
  pub whole : input ≡ ended ++ tail
  pub ends : (ended ≡ []) ⊎ ((front : List ℕ) × (ended ≡ with_lf front))
  pub no_lf : HasNoLf tail

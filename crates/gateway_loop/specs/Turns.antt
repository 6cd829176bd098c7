-- The events of the turns of a live gateway. Own choice.
use Rattle.std.specs.Prelude.{◌≡◌, ◌-◌, ◌==◌, ℕ, List, [], ◌∷◌, ◌++◌, length, take, drop, map}
use Rattle.std.specs.List.{slice_split}
use Rattle.std.specs.Str.Lines.{strip_carriage_return}
use Rattle.gateway_core.specs.Events.{InputEvent, Chunk, Line, inputs_of}

-- the bytes that one turn read, of the serial line and then of the desk
pub record Turn : Type 0 where
  pub chunk : List ℕ
  pub desk : List ℕ

-- the reads of turns: of the serial line, and of the desk
abbrev pub serial_reads : List Turn → List (List ℕ)
serial_reads turns = map (λ turn. turn.chunk) turns

abbrev pub desk_reads : List Turn → List (List ℕ)
desk_reads turns = map (λ turn. turn.desk) turns

-- The turns of these reads. If the desk was not read in the last turn, that counts as a read of 0 bytes.
abbrev pub turns_of : (serial desk : List (List ℕ)) → List Turn
turns_of [] desk = []
turns_of (chunk ∷ serial) [] = record { chunk = chunk; desk = [] } ∷ turns_of serial []
turns_of (chunk ∷ serial) (bytes ∷ desk) = record { chunk = chunk; desk = bytes } ∷ turns_of serial desk

-- the bytes before each LF, from the LF before it
abbrev pub lines_ended_by_lf : (bytes : List ℕ) → List (List ℕ)
lines_ended_by_lf bytes =
    let parts = slice_split (λ byte. byte == 10) bytes in take (length parts - 1) parts

-- the orders of the desk: its lines that LF ends. One CR before LF is not part of a line
abbrev pub desk_line_events : (bytes : List ℕ) → List InputEvent
desk_line_events bytes = map (λ line. Line (strip_carriage_return line)) (lines_ended_by_lf bytes)

-- For each turn its chunk, and then the orders that its desk bytes complete: those in the desk's bytes so far, without
-- those in the bytes before the turn.
abbrev pub events_of_turns_after : (before : List ℕ) → List Turn → List InputEvent
events_of_turns_after before [] = []
events_of_turns_after before (turn ∷ turns) =
    let now = before ++ turn.desk in
    Chunk turn.chunk ∷ (drop (length (desk_line_events before)) (desk_line_events now)
    ++ events_of_turns_after now turns)

abbrev pub events_of_turns : List Turn → List InputEvent
events_of_turns turns = events_of_turns_after [] turns

-- theorem `inputs_do_not_depend_on_read_sizes`: how the bytes before an order are split into reads does not change the
-- inputs
pub record InputsDoNotDependOnReadSizes : Type 0 where
  -- a turn whose reads returned 0 bytes, as while the serial line is silent and the desk gives no order
  pub silence : (earlier later : List Turn)
      → inputs_of [] (events_of_turns (earlier ++ record { chunk = []; desk = [] } ∷ later))
      ≡ inputs_of [] (events_of_turns (earlier ++ later))
  -- the bytes of the serial line in two turns, in place of one, with 0 bytes of the desk in the first
  pub serial : (earlier later : List Turn) (first second desk : List ℕ)
      → inputs_of [] (events_of_turns (earlier ++ record { chunk = first ++ second; desk = desk } ∷ later))
      ≡ inputs_of [] (events_of_turns (earlier ++ record { chunk = first; desk = [] }
      ∷ record { chunk = second; desk = desk } ∷ later))
  -- the bytes of the desk in two turns, in place of one, with 0 bytes of the serial line in the second
  pub desk : (earlier later : List Turn) (chunk first second : List ℕ)
      → inputs_of [] (events_of_turns (earlier ++ record { chunk = chunk; desk = first ++ second } ∷ later))
      ≡ inputs_of [] (events_of_turns (earlier ++ record { chunk = chunk; desk = first }
      ∷ record { chunk = []; desk = second } ∷ later))

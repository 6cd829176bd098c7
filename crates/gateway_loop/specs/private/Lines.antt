-- Lines as bytes, and their events. Own choice.
use Rattle.std.specs.Prelude.{◌≡◌, ◌+◌, ℕ, List, take, map}
use Rattle.std.specs.Str.Lines.{strip_carriage_return}
use Rattle.desk_orders.specs.Limits.{max_line}
use Rattle.gateway_core.specs.Events.{InputEvent, Line}
use Rattle.gateway_loop.specs.declared.line_splitter.LineSource.{LineSource}
use Rattle.gateway_loop.specs.declared.line_splitter.LineSource.TheVariants.{ScriptLines, DeskLines}
use Rattle.gateway_loop.specs.Script.{HasNoLf, event_of_script_line}

-- how many bytes of a line are kept: with CR they distinguish each line that is not too long from all that are
abbrev pub max_partial_line : ℕ
max_partial_line = max_line + 2

-- the event of a line, without its end: a line of the desk is always an order
abbrev pub event_of_line_from : LineSource → (line : List ℕ) → InputEvent
event_of_line_from ScriptLines line = event_of_script_line line
event_of_line_from DeskLines line = Line line

-- the events of lines that LF ended
abbrev pub events_by : LineSource → (ended : List (List ℕ)) → List InputEvent
events_by lines ended = map (λ line. event_of_line_from lines (strip_carriage_return line)) ended

-- these bytes of a partial line have arrived: the first of them are kept
pub record KeepsTruncatedLine (tail kept : List ℕ) : Type 0 where
  pub no_lf : HasNoLf tail
  pub is : kept ≡ take max_partial_line tail

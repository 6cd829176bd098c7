-- The processing of bytes by a line splitter: it processes each line when it is complete.
use Rattle.std.specs.Prelude.{◌≡◌, ℕ, List, ◌∷◌, ◌++◌, All}
use Rattle.std.specs.List.{flat_map}
use Rattle.std.specs.Str.Lines.{strip_carriage_return}
use Rattle.learned_devices.specs.DeviceStoreState.{DeviceStoreState}
use Rattle.gateway_loop.specs.declared.line_splitter.LineSource.{LineSource}
use Rattle.gateway_loop.specs.declared.line_splitter.LineSplitter.{LineSplitter}
use Rattle.gateway_loop.specs.private.Lines.{KeepsTruncatedLine, event_of_line_from, events_by}
use Rattle.gateway_loop.specs.OutputSpecs.{OutputSpec}
use Rattle.gateway_loop.specs.private.DriverSteps.{DriverBreaks, Takes}
use Rattle.gateway_loop.specs.Script.{HasNoLf, with_lf}

-- Below, `bytes` are those of the first partial line, followed by those that arrived after it.
module _ {O S : Type 0} (stored : S → DeviceStoreState) (output : OutputSpec O) (lines : LineSource) where
  -- the lines that LF ends in the bytes were taken, and the first bytes of the partial line after them are kept
  pub record TakesEndedLines (old new : LineSplitter O S) (bytes : List ℕ) : Type 0 where
    pub ended : List (List ℕ)
    pub rest : List ℕ
    pub whole : bytes ≡ flat_map with_lf ended ++ rest
    pub each : All HasNoLf ended
    pub keeps : KeepsTruncatedLine rest new.partial
    pub taken : Takes stored output old.driver new.driver (events_by lines ended)

  -- an answer was not written completely at one of the lines that LF ends in the bytes
  pub record BreaksInBytes (old new : LineSplitter O S) (bytes : List ℕ) : Type 0 where
    pub ended : List (List ℕ)
    pub line : List ℕ
    pub more : List ℕ
    pub whole : bytes ≡ flat_map with_lf ended ++ (line ++ 10 ∷ more)
    pub each : All HasNoLf ended
    pub no_lf : HasNoLf line
    pub broken : DriverBreaks stored output old.driver new.driver (events_by lines ended)
        (event_of_line_from lines (strip_carriage_return line))

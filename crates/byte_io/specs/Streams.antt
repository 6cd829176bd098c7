-- The state of a source and of a sink.
use Rattle.std.specs.Prelude.{ℕ, List, Option}
use Rattle.byte_io.specs.Transfers.{Transfer}
use Rattle.byte_io.specs.declared.sink.Sink as sinks
use Rattle.byte_io.specs.declared.source.Source as sources

-- the reads so far, and the bytes that it has left, if they are known
pub record SourceValue : Type 0 where
  pub reads : List Transfer
  pub unread : Option (List ℕ)

-- the writes so far, and the bytes that it holds, if they are known
pub record SinkValue : Type 0 where
  pub writes : List Transfer
  pub held : Option (List ℕ)

abbrev pub source_value : {P : Type 0} → sources.Ghosts P → P → SourceValue
source_value members now = record { reads = members.reads now; unread = members.left now }

abbrev pub sink_value : {W : Type 0} → sinks.Ghosts W → W → SinkValue
sink_value members now = record { writes = members.writes now; held = members.held now }

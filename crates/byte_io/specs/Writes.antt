-- The writes of a text to a sink.
use Rattle.std.specs.Prelude.{◌≡◌, ◌<◌, ℕ, List, [], ◌∷◌, ◌++◌, length, All, Result, MatchResult}
use Rattle.std.specs.Io.KnownBytes.{Appends}
use Rattle.byte_io.specs.Streams.{SinkValue}
use Rattle.byte_io.specs.Transfers.{Transfer, MovesBytes, MovesNothing, bytes_of}

-- these writes were made, and accepted exactly this text; the sink holds it after what it held, if that is known
pub record Accepts (old new : SinkValue) (writes : List Transfer) (text : List ℕ) : Type 0 where
  pub made : new.writes ≡ old.writes ++ writes
  pub accepted : bytes_of writes ≡ text
  pub held : Appends old.held new.held text

-- the writes accepted exactly this text
abbrev pub Adds : (old new : SinkValue) (text : List ℕ) → Type 0
Adds old new text = (writes : List Transfer) × Accepts old new writes text

-- all of the text was written, and each write accepted at least one byte
pub record WritesText (old new : SinkValue) (text : List ℕ) : Type 0 where
  pub writes : List Transfer
  pub accepts : Accepts old new writes text
  pub each : All MovesBytes writes

-- the front was written, and then some proper prefix of the text: only the last write failed or accepted 0 bytes
pub record WritesPart (old new : SinkValue) (front text : List ℕ) : Type 0 where
  pub part : List ℕ
  pub unwritten : List ℕ
  pub whole : text ≡ part ++ unwritten
  pub unwritten_is_not_empty : 0 < length unwritten
  pub earlier : List Transfer
  pub last : Transfer
  pub accepts : Accepts old new (earlier ++ last ∷ []) (front ++ part)
  pub each : All MovesBytes earlier
  pub last_write_moves_nothing : MovesNothing last

-- all of the text for `Ok`, and a proper prefix of it for `Err`
abbrev pub Writes : {A E : Type 0} → (old new : SinkValue) → Result A E → (text : List ℕ) → Type 0
Writes old new result text = MatchResult result (λ _. WritesText old new text) (λ _. WritesPart old new [] text)

-- The effect of the lines that explain packets on the output.
use Rattle.std.specs.Prelude.{◌≡◌, ℕ, true, false, List, [], ◌∷◌, ◌++◌}
use Rattle.gateway_core.specs.Step.{Answer}
use Rattle.byte_io.specs.Streams.{SinkValue}
use Rattle.byte_io.specs.Transfers.{bytes_of}
use Rattle.gateway_loop.specs.LiveOutputs.{live_output}
use Rattle.gateway_loop.specs.Written.{AppendsReplayText, radio_chunk_line}

-- Both texts are those of the answers, each with some text before the one for the desk; the second also has the line
-- that explains the packet between the two.
abbrev pub DifferByExplanations : (Answer → List ℕ) → List Answer → (plain explained : List ℕ) → Type 0
DifferByExplanations before [] plain explained = (plain ≡ []) × (explained ≡ [])
DifferByExplanations before (answer ∷ answers) plain explained =
    (rest more : List ℕ) × (plain ≡ before answer ++ (answer.desk ++ rest))
    × (explained ≡ before answer ++ (answer.explanation ++ (answer.desk ++ more)))
    × DifferByExplanations before answers rest more

-- The same for what a sink received after what it had received.
pub record DifferByExplanationsAfter (before : Answer → List ℕ) (answers : List Answer) (held plain explained : List ℕ)
    : Type 0 where
  pub plain_added : List ℕ
  pub explained_added : List ℕ
  pub plain_is : plain ≡ held ++ plain_added
  pub explained_is : explained ≡ held ++ explained_added
  pub differ : DifferByExplanations before answers plain_added explained_added

-- theorem `explanations_only_add_lines`: explaining adds the lines that explain packets, each just before the text for
-- the desk, and changes nothing else in what a replay writes, or a live gateway to the desk and to the serial line
pub record ExplanationsOnlyAddLines : Type 0 where
  pub replay : (answers : List Answer) (old new other : SinkValue)
      → AppendsReplayText false old new answers → AppendsReplayText true old other answers
      → DifferByExplanationsAfter (λ answer. radio_chunk_line answer.radio) answers (bytes_of old.writes)
      (bytes_of new.writes) (bytes_of other.writes)
  pub desk : (answers : List Answer) (old new other : SinkValue × SinkValue)
      → (live_output false).puts old new answers → (live_output true).puts old other answers
      → DifferByExplanationsAfter (λ answer. []) answers (bytes_of old.1.writes) (bytes_of new.1.writes)
      (bytes_of other.1.writes)
  pub serial : (answers : List Answer) (old new other : SinkValue × SinkValue)
      → (live_output false).puts old new answers → (live_output true).puts old other answers
      → bytes_of new.0.writes ≡ bytes_of other.0.writes

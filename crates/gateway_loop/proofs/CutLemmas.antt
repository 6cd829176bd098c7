-- How the reads of turns split the bytes does not change the inputs.
use Rattle.std.proofs.Common.{◌≡◌, ℕ, List, [], ◌∷◌, ◌++◌, ap, sym, ◌∙◌, append-nil, append_assoc}
use Rattle.gateway_core.specs.Step.{Input}
use Rattle.gateway_core.specs.Events.{InputEvent, Chunk, inputs_of}
use Rattle.gateway_core.proofs.ForCallers.{inputs_of-append}
use Rattle.gateway_loop.specs.Turns.{InputsDoNotDependOnReadSizes, Turn, events_of_turns_after}
use Rattle.gateway_loop.proofs.ChunkLemmas.{inputs_of-no_bytes, inputs_of-parts}
use Rattle.gateway_loop.proofs.LineLemmas.{orders_after, orders_after-append, orders_after-nothing}

-- the events of a turn that read nothing of the desk, and of those after it
events_of_turns_after-chunk : (before chunk : List ℕ) (later : List Turn)
    → events_of_turns_after before (record { chunk = chunk; desk = [] } ∷ later)
    ≡ Chunk chunk ∷ events_of_turns_after before later
events_of_turns_after-chunk before chunk later =
    ap (λ (orders : List InputEvent). Chunk chunk ∷ (orders ++ events_of_turns_after (before ++ []) later))
    (orders_after-nothing before)
    ∙ ap (λ (now : List ℕ). Chunk chunk ∷ events_of_turns_after now later) (append-nil before)

-- events that bring the same inputs also do so after others
same_after : (earlier some others : List InputEvent)
    → ((stream : List ℕ) → inputs_of stream some ≡ inputs_of stream others)
    → (stream : List ℕ) → inputs_of stream (earlier ++ some) ≡ inputs_of stream (earlier ++ others)
same_after earlier some others same stream =
    inputs_of-append stream earlier some
    ∙ ap (λ (inputs : List Input). inputs_of stream earlier ++ inputs) (same _)
    ∙ sym (inputs_of-append stream earlier others)

-- turns that bring the same inputs, and those turns after others
abbrev BringTheSame : (some others : List Turn) → Type 0
BringTheSame some others =
    (stream before : List ℕ)
    → inputs_of stream (events_of_turns_after before some) ≡ inputs_of stream (events_of_turns_after before others)

after_earlier : (some others : List Turn) → BringTheSame some others → (earlier : List Turn)
    → BringTheSame (earlier ++ some) (earlier ++ others)
after_earlier some others same [] stream before = same stream before
after_earlier some others same (turn ∷ earlier) stream before =
    same_after (Chunk turn.chunk ∷ orders_after before turn.desk) _ _
    (λ stream. after_earlier some others same earlier stream (before ++ turn.desk)) stream

-- the bytes of the desk in two parts
desk_in_parts : (chunk first second : List ℕ) (later : List Turn)
    → BringTheSame (record { chunk = chunk; desk = first ++ second } ∷ later)
    (record { chunk = chunk; desk = first } ∷ record { chunk = []; desk = second } ∷ later)
desk_in_parts chunk first second later stream before =
    let one = orders_after before first in
    let other = orders_after (before ++ first) second in
    let rest = events_of_turns_after ((before ++ first) ++ second) later in
    ap (λ (now : List ℕ).
    inputs_of stream (Chunk chunk ∷ (orders_after before (first ++ second) ++ events_of_turns_after now later)))
    (sym (append_assoc before first second))
    ∙ ap (λ (orders : List InputEvent). inputs_of stream (Chunk chunk ∷ (orders ++ rest)))
    (orders_after-append before first second)
    ∙ ap (λ (events : List InputEvent). inputs_of stream (Chunk chunk ∷ events)) (append_assoc one other rest)
    ∙ same_after (Chunk chunk ∷ one) (other ++ rest) (Chunk [] ∷ (other ++ rest))
    (λ stream. sym (inputs_of-no_bytes stream (other ++ rest))) stream

pub inputs_do_not_depend_on_read_sizes : InputsDoNotDependOnReadSizes
inputs_do_not_depend_on_read_sizes = record {
  silence = λ earlier later.
      after_earlier (record { chunk = []; desk = [] } ∷ later) later
      (λ stream before.
      ap (inputs_of stream) (events_of_turns_after-chunk before [] later)
      ∙ inputs_of-no_bytes stream (events_of_turns_after before later)) earlier [] [];
  serial = λ earlier later first second desk.
      after_earlier (record { chunk = first ++ second; desk = desk } ∷ later)
      (record { chunk = first; desk = [] } ∷ record { chunk = second; desk = desk } ∷ later)
      (λ stream before.
      inputs_of-parts stream first second
      (orders_after before desk ++ events_of_turns_after (before ++ desk) later)
      ∙ ap (inputs_of stream)
      (sym (events_of_turns_after-chunk before first (record { chunk = second; desk = desk } ∷ later)))) earlier [] [];
  desk = λ earlier later chunk first second.
      after_earlier (record { chunk = chunk; desk = first ++ second } ∷ later)
      (record { chunk = chunk; desk = first } ∷ record { chunk = []; desk = second } ∷ later)
      (desk_in_parts chunk first second later) earlier [] [];
}

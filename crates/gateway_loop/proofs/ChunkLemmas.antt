-- The inputs of chunks do not depend on how the bytes are split.
use Rattle.std.proofs.Common.{◌≡◌, ℕ, List, [], ◌∷◌, ◌++◌, refl, ap, append_assoc}
use Rattle.gateway_core.specs.Events.{InputEvent, Chunk, Line, bytes_between, inputs_of, prepend_to_first}
use Rattle.gateway_core.proofs.ForCallers.{cuts_do_not_matter}

prepend_to_first-nothing : (events : List InputEvent)
    → prepend_to_first [] (bytes_between events) ≡ bytes_between events
prepend_to_first-nothing [] = refl
prepend_to_first-nothing (Line line ∷ events) = refl
prepend_to_first-nothing (Chunk bytes ∷ events) = nothing (bytes_between events)
  where
    nothing : (texts : List (List ℕ))
        → prepend_to_first [] (prepend_to_first bytes texts) ≡ prepend_to_first bytes texts
    nothing [] = refl
    nothing (text ∷ texts) = refl

prepend_to_first-append : (first second : List ℕ) (texts : List (List ℕ))
    → prepend_to_first (first ++ second) texts ≡ prepend_to_first first (prepend_to_first second texts)
prepend_to_first-append first second [] = refl
prepend_to_first-append first second (text ∷ texts) =
    ap (λ (bytes : List ℕ). bytes ∷ texts) (append_assoc first second text)

-- an empty chunk brings no input
pub inputs_of-no_bytes : (stream : List ℕ) (events : List InputEvent)
    → inputs_of stream (Chunk [] ∷ events) ≡ inputs_of stream events
inputs_of-no_bytes stream events =
    cuts_do_not_matter stream (Chunk [] ∷ events) events refl (prepend_to_first-nothing events)

-- a chunk brings the same inputs as its two parts
pub inputs_of-parts : (stream first second : List ℕ) (events : List InputEvent)
    → inputs_of stream (Chunk (first ++ second) ∷ events) ≡ inputs_of stream (Chunk first ∷ Chunk second ∷ events)
inputs_of-parts stream first second events =
    cuts_do_not_matter stream (Chunk (first ++ second) ∷ events) (Chunk first ∷ Chunk second ∷ events) refl
    (prepend_to_first-append first second (bytes_between events))

-- The inputs of events, by the bytes between their lines, and by the rest of the stream before them.
use Rattle.std.proofs.Common.{◌≡◌, ℕ, List, [], ◌∷◌, ◌++◌, map, refl, sym, ap, subst, ◌∙◌, append_assoc}
use Rattle.std.proofs.Math.Seq.{drop-append_seam}
use Rattle.std.proofs.lemmas.List.{append-nil, map-append}
use Rattle.esp3_frames.specs.PacketsAndRest.{packets_in, rest_of}
use Rattle.esp3_frames.proofs.ForCallers.{framing_in_parts, framing_of, packets_and_rest-may_become, rest_may_become}
use Rattle.gateway_core.specs.Step.{Input, Received, Ordered}
use Rattle.gateway_core.specs.Run.{Run}
use Rattle.gateway_core.specs.Events.{InputEvent, Chunk, Line, new_packets, inputs_of, bytes_in, desk_lines_in}
use Rattle.gateway_core.specs.Events.{prepend_to_first, bytes_between, InputsDoNotDependOnChunks}
use Rattle.gateway_core.specs.Events.{AnswersDoNotDependOnChunks}
use Rattle.gateway_core.proofs.RunLemmas.{same_failures_give_same_answers}
use Rattle.esp3_frames.specs.Framing.{MayBecomePacket}

-- some bytes complete the packets that they complete after the rest of the stream
pub new_packets-rest : (stream bytes : List ℕ) → new_packets stream bytes ≡ packets_in (rest_of stream ++ bytes)
new_packets-rest stream bytes =
    rw (framing_in_parts stream bytes).0 (drop-append_seam (packets_in stream) (packets_in (rest_of stream ++ bytes)))

pub new_packets-nil : (stream : List ℕ) → new_packets stream [] ≡ []
new_packets-nil stream =
    rw (append-nil stream) (rw (append-nil (packets_in stream)) at (drop-append_seam (packets_in stream) []))

pub new_packets-append : (stream bytes more : List ℕ)
    → new_packets stream (bytes ++ more) ≡ new_packets stream bytes ++ new_packets (stream ++ bytes) more
new_packets-append stream bytes more =
    rw (
      new_packets-rest stream (bytes ++ more),
      new_packets-rest stream bytes,
      new_packets-rest (stream ++ bytes) more,
      ← append_assoc (rest_of stream) bytes more,
      (framing_in_parts (rest_of stream ++ bytes) more).0,
      (framing_in_parts stream bytes).1,
    )

-- the events of two lists, one after the other
pub inputs_of-append : (stream : List ℕ) (events more : List InputEvent)
    → inputs_of stream (events ++ more) ≡ inputs_of stream events ++ inputs_of (stream ++ bytes_in events) more
inputs_of-append stream [] more = rw (append-nil stream)
inputs_of-append stream (Chunk bytes ∷ events) more =
    simp (inputs_of-append (stream ++ bytes) events more, append_assoc)
inputs_of-append stream (Line line ∷ events) more = simp (inputs_of-append stream events more)

-- the inputs of lines and of the bytes between them
spread : List ℕ → List (List ℕ) → List (List ℕ) → List Input
spread stream [] lines = []
spread stream (bytes ∷ others) [] = map Received (new_packets stream bytes)
spread stream (bytes ∷ others) (line ∷ lines) =
    map Received (new_packets stream bytes) ++ Ordered line ∷ spread (stream ++ bytes) others lines

received-append : (stream bytes more : List ℕ)
    → map Received (new_packets stream (bytes ++ more))
    ≡ map Received (new_packets stream bytes) ++ map Received (new_packets (stream ++ bytes) more)
received-append stream bytes more = rw (new_packets-append stream bytes more)
    (map-append Received (new_packets stream bytes) (new_packets (stream ++ bytes) more))

spread-prepend_to_first : (stream bytes text : List ℕ) (texts lines : List (List ℕ))
    → spread stream (prepend_to_first bytes (text ∷ texts)) lines
    ≡ map Received (new_packets stream bytes) ++ spread (stream ++ bytes) (text ∷ texts) lines
unfolding spread
spread-prepend_to_first stream bytes text texts [] = received-append stream bytes text
spread-prepend_to_first stream bytes text texts (line ∷ lines) =
    simp (received-append stream bytes text, append_assoc)

prepend_to_first-is_cons : (bytes : List ℕ) (texts : List (List ℕ))
    → (text : List ℕ) × (others : List (List ℕ)) × (prepend_to_first bytes texts ≡ text ∷ others)
prepend_to_first-is_cons bytes [] = (bytes, [], refl)
prepend_to_first-is_cons bytes (text ∷ texts) = (bytes ++ text, texts, refl)

bytes_between-is_cons : (events : List InputEvent)
    → (text : List ℕ) × (others : List (List ℕ)) × (bytes_between events ≡ text ∷ others)
bytes_between-is_cons [] = ([], [], refl)
bytes_between-is_cons (Chunk bytes ∷ events) = prepend_to_first-is_cons bytes (bytes_between events)
bytes_between-is_cons (Line line ∷ events) = ([], bytes_between events, refl)

inputs_of-spread : (stream : List ℕ) (events : List InputEvent)
    → inputs_of stream events ≡ spread stream (bytes_between events) (desk_lines_in events)
unfolding spread
inputs_of-spread stream [] = simp (new_packets-nil stream)
inputs_of-spread stream (Chunk bytes ∷ events) =
    let (text, others, is) = bytes_between-is_cons events in
    let rest = rw is at (inputs_of-spread (stream ++ bytes) events) in
    rw is (sym (spread-prepend_to_first stream bytes text others (desk_lines_in events)
    ∙ ap (λ inputs. map Received (new_packets stream bytes) ++ inputs) (sym rest)))
inputs_of-spread stream (Line line ∷ events) =
    cc (new_packets-nil stream, append-nil stream, inputs_of-spread stream events)

pub cuts_do_not_matter : InputsDoNotDependOnChunks
cuts_do_not_matter s events others same_lines same_bytes =
    inputs_of-spread s events
    ∙ ap (λ (xs : List (List ℕ)). spread s xs (desk_lines_in events)) same_bytes
    ∙ ap (λ (ls : List (List ℕ)). spread s (bytes_between others) ls) same_lines
    ∙ sym (inputs_of-spread s others)

pub answers_do_not_depend_on_chunks : AnswersDoNotDependOnChunks
answers_do_not_depend_on_chunks s events others old left right results after answers more same_lines same_bytes alike
    first
    second =
    let same = cuts_do_not_matter s events others same_lines same_bytes in
    let on_same = subst (λ inputs. Run old inputs after more right) (sym same) second in
    same_failures_give_same_answers old left right (inputs_of s events) results after answers more alike first on_same

-- ---- only the rest of the stream matters

pub rest_of-may_become_packet : (s : List ℕ) → MayBecomePacket (rest_of s)
rest_of-may_become_packet s = rest_may_become (framing_of s)

rest_of-rest_of : (stream : List ℕ) → rest_of (rest_of stream) ≡ rest_of stream
rest_of-rest_of stream = sym (packets_and_rest-may_become (rest_of stream) (rest_of-may_become_packet stream)).1

-- the inputs of events depend only on the rest of the stream
inputs_of-rest : (stream : List ℕ) (events : List InputEvent)
    → inputs_of stream events ≡ inputs_of (rest_of stream) events
inputs_of-rest stream [] = refl
inputs_of-rest stream (Chunk bytes ∷ events) = cc (
  new_packets-rest stream bytes,
  new_packets-rest (rest_of stream) bytes,
  rest_of-rest_of stream,
  inputs_of-rest (stream ++ bytes) events,
  inputs_of-rest (rest_of stream ++ bytes) events,
  (framing_in_parts stream bytes).1,
)
inputs_of-rest stream (Line line ∷ events) = cc (inputs_of-rest stream events)

bytes_in-append : (events more : List InputEvent) → bytes_in (events ++ more) ≡ bytes_in events ++ bytes_in more
bytes_in-append [] more = refl
bytes_in-append (Chunk bytes ∷ events) more =
    cc (bytes_in-append events more, append_assoc bytes (bytes_in events) (bytes_in more))
bytes_in-append (Line line ∷ events) more = bytes_in-append events more

-- more events after those that left this rest
pub inputs_of-more_events : (old mid : List ℕ) (events more : List InputEvent) → mid ≡ rest_of (old ++ bytes_in events)
    → inputs_of old (events ++ more) ≡ inputs_of old events ++ inputs_of mid more
inputs_of-more_events old mid events more is =
    cc (inputs_of-append old events more, inputs_of-rest (old ++ bytes_in events) more)

pub rest_of-more_events : (old mid : List ℕ) (events more : List InputEvent) → mid ≡ rest_of (old ++ bytes_in events)
    → rest_of (mid ++ bytes_in more) ≡ rest_of (old ++ bytes_in (events ++ more))
rest_of-more_events old mid events more is = cc (
  (framing_in_parts (old ++ bytes_in events) (bytes_in more)).1,
  append_assoc old (bytes_in events) (bytes_in more),
  bytes_in-append events more,
)

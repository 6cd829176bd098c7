-- The lines of a script and of the desk, and their events.
use Rattle.std.proofs.lemmas.Grind.{common_steps}
use Rattle.std.proofs.Common.{◌≡◌, ◌≢◌, ℕ, ◌<◌, ◌≤◌, ◌-◌, List, [], ◌∷◌, ◌++◌, length, refl, ap, sym, subst, ◌∙◌}
use Rattle.std.proofs.Common.{append-nil, append_assoc, arith, drop, false, get_or, inl, inr, map, suc, take}
use Rattle.std.specs.Prelude.{◌==◌, ◌⊎◌, if◌then◌else◌, All}
use Rattle.std.specs.List.{flat_map, slice_split}
use Rattle.std.specs.Str.Lines.{lines_of_parts, strip_carriage_return}
use Rattle.std.proofs.Math.Seq.{drop-append_seam, take-length}
use Rattle.std.proofs.lemmas.Bool.{eq-eqb, ne_eqb}
use Rattle.std.proofs.lemmas.Bool.Decides.{eqb_tells}
use Rattle.std.proofs.lemmas.List.{append_cancel_left, get_or_default, get_or-take, length-take}
use Rattle.std.proofs.lemmas.List.Elements.{All-cons, All-head, All-nil, All-tail}
use Rattle.std.proofs.lemmas.List.Splits.{slice_split_none, slice_split_at, length-slice_split}
use Rattle.memchr.specs.Find.{Nowhere, Passes, is_byte}
use Rattle.gateway_core.specs.Events.{InputEvent, Line}
use Rattle.gateway_loop.specs.Script.{HasNoLf, event_of_script_line, script, with_lf}
use Rattle.gateway_loop.specs.Turns.{desk_line_events}
use Rattle.gateway_loop.specs.private.Lines.{event_of_line_from, events_by}
use Rattle.gateway_loop.specs.declared.line_splitter.LineSource.{LineSource}
use Rattle.gateway_loop.specs.declared.line_splitter.LineSource.TheVariants.{DeskLines, ScriptLines}

-- ---- what a search for LF shows

-- no LF among the first bytes
pub take-HasNoLf : (bytes : List ℕ) (count : ℕ) → count ≤ length bytes
    → Nowhere (Passes (is_byte 10) bytes) 0 count → HasNoLf (take count bytes)
take-HasNoLf bytes count fits none k d below is =
    let short : k < count = omega (arith, below, length-take count bytes) in
    none k (omega arith) short
    (eq-eqb (get_or bytes k 0) 10 (get_or_default bytes k 0 d (omega arith)
    ∙ sym (get_or-take count bytes k d short) ∙ is))

pub all-HasNoLf : (bytes : List ℕ) → Nowhere (Passes (is_byte 10) bytes) 0 (length bytes) → HasNoLf bytes
all-HasNoLf bytes none = subst HasNoLf (take-length bytes) (take-HasNoLf bytes (length bytes) (omega arith) none)

no_lf_test : (bytes : List ℕ) → HasNoLf bytes → All (λ byte. (byte == 10) ≡ false) bytes
no_lf_test bytes no_lf k d below = ne_eqb _ 10 (no_lf k d below)

-- ---- the events of bytes

-- of the parts between the LFs of a script, or of what the desk sends
abbrev events_of_parts : LineSource → List (List ℕ) → List InputEvent
events_of_parts ScriptLines parts = map event_of_script_line (lines_of_parts parts)
events_of_parts DeskLines parts = map (λ line. Line (strip_carriage_return line)) (take (length parts - 1) parts)

abbrev pub events_in : LineSource → (bytes : List ℕ) → List InputEvent
events_in lines bytes = events_of_parts lines (slice_split (λ byte. byte == 10) bytes)

events_of_parts-cons : (lines : LineSource) (line : List ℕ) (parts : List (List ℕ)) → 0 < length parts
    → events_of_parts lines (line ∷ parts)
    ≡ event_of_line_from lines (strip_carriage_return line) ∷ events_of_parts lines parts
events_of_parts-cons lines line [] some = absurd (omega arith)
events_of_parts-cons ScriptLines line (part ∷ parts) some = refl
events_of_parts-cons DeskLines line (part ∷ parts) some =
    let one_less : length (line ∷ part ∷ parts) - 1 ≡ suc (length (part ∷ parts) - 1) = omega arith in
    ap (λ n. map (λ line. Line (strip_carriage_return line)) (take n (line ∷ part ∷ parts))) one_less

-- the first line that LF ends, and more
pub events_in-first : (lines : LineSource) (line more : List ℕ) → HasNoLf line
    → events_in lines (line ++ 10 ∷ more)
    ≡ event_of_line_from lines (strip_carriage_return line) ∷ events_in lines more
events_in-first lines line more no_lf =
    ap (events_of_parts lines) (slice_split_at (λ byte. byte == 10) line 10 more (no_lf_test line no_lf) refl)
    ∙ events_of_parts-cons lines line (slice_split (λ byte. byte == 10) more)
    (omega (arith, length-slice_split (λ byte. byte == 10) more))

-- some lines that LF ends, and more
pub events_in-ended : (lines : LineSource) (ended : List (List ℕ)) (more : List ℕ) → All HasNoLf ended
    → events_in lines (flat_map with_lf ended ++ more) ≡ events_by lines ended ++ events_in lines more
events_in-ended lines [] more each = refl
events_in-ended lines (line ∷ ended) more each =
    let rest = flat_map with_lf ended ++ more in
    ap (events_in lines) (append_assoc (with_lf line) (flat_map with_lf ended) more ∙ append_assoc line (10 ∷ []) rest)
    ∙ events_in-first lines line rest (All-head HasNoLf line ended each)
    ∙ ap (λ (events : List InputEvent). event_of_line_from lines (strip_carriage_return line) ∷ events)
    (events_in-ended lines ended more (All-tail HasNoLf line ended each))

-- the line of a script without LF
pub script-last : (tail : List ℕ) → HasNoLf tail → length tail ≢ 0 → script tail ≡ event_of_script_line tail ∷ []
script-last tail no_lf some =
    ap (events_of_parts ScriptLines) (slice_split_none (λ byte. byte == 10) tail (no_lf_test tail no_lf))
    ∙ ap (λ none. map event_of_script_line (if none then [] else tail ∷ [])) (ne_eqb (length tail) 0 some)

-- ---- bytes as lines

-- lines that LF ends, and a partial line after them
pub record Splits (bytes : List ℕ) : Type 0 where
  pub ended : List (List ℕ)
  pub rest : List ℕ
  pub whole : bytes ≡ flat_map with_lf ended ++ rest
  pub each : All HasNoLf ended
  pub no_lf : HasNoLf rest

splits : (bytes : List ℕ) → Splits bytes
splits [] = record { ended = []; rest = []; whole = refl; each = All-nil HasNoLf; no_lf = All-nil (λ b. b ≢ 10) }
splits (byte ∷ bytes) =
    let later = splits bytes in
    elim (eqb_tells byte 10) [
      | inl (test, is) ↦
          record {
            ended = [] ∷ later.ended;
            rest = later.rest;
            whole = ap (λ b. b ∷ bytes) is ∙ ap (λ s. 10 ∷ s) later.whole;
            each = All-cons HasNoLf [] later.ended (All-nil (λ b. b ≢ 10)) later.each;
            no_lf = later.no_lf;
          }
      | inr (test, other) ↦ onto_first later.ended later.rest later.whole later.each later.no_lf other
    ]
  where
    onto_first : (ended : List (List ℕ)) (rest : List ℕ) → bytes ≡ flat_map with_lf ended ++ rest → All HasNoLf ended
        → HasNoLf rest → byte ≢ 10 → Splits (byte ∷ bytes)
    onto_first [] rest whole each no_lf other = record {
      ended = [];
      rest = byte ∷ rest;
      whole = ap (λ s. byte ∷ s) whole;
      each = each;
      no_lf = All-cons (λ b. b ≢ 10) byte rest other no_lf;
    }
    onto_first (line ∷ ended) rest whole each no_lf other = record {
      ended = (byte ∷ line) ∷ ended;
      rest = rest;
      whole = ap (λ s. byte ∷ s) whole;
      each = All-cons HasNoLf (byte ∷ line) ended
          (All-cons (λ b. b ≢ 10) byte line other (All-head HasNoLf line ended each))
          (All-tail HasNoLf line ended each);
      no_lf = no_lf;
    }

-- the lines of bytes, and of more bytes after them
pub ended-append : {first : List ℕ} (second : List ℕ) (ended more : List (List ℕ)) (rest last : List ℕ)
    → first ≡ flat_map with_lf ended ++ rest → rest ++ second ≡ flat_map with_lf more ++ last
    → first ++ second ≡ flat_map with_lf (ended ++ more) ++ last
ended-append second ended more rest last whole later = grind (arith, common_steps)

pub flat_map-with_lf : (ended : List (List ℕ))
    → (flat_map with_lf ended ≡ []) ⊎ ((front : List ℕ) × (flat_map with_lf ended ≡ with_lf front))
flat_map-with_lf [] = inl refl
flat_map-with_lf (line ∷ ended) = elim (flat_map-with_lf ended) [
  | inl none ↦ inr (line, ap (λ s. with_lf line ++ s) none ∙ append-nil (with_lf line))
  | inr (front, is) ↦
      inr (with_lf line ++ front, ap (λ s. with_lf line ++ s) is ∙ sym (append_assoc (with_lf line) front (10 ∷ [])))
]

-- ---- the orders that more bytes of the desk complete

abbrev pub orders_after : (before bytes : List ℕ) → List InputEvent
orders_after before bytes = drop (length (desk_line_events before)) (desk_line_events (before ++ bytes))

pub orders-none : (tail : List ℕ) → HasNoLf tail → desk_line_events tail ≡ []
orders-none tail no_lf =
    ap (events_of_parts DeskLines) (slice_split_none (λ byte. byte == 10) tail (no_lf_test tail no_lf))

orders-split : {before : List ℕ} (lines : Splits before) (bytes : List ℕ)
    → desk_line_events (before ++ bytes) ≡ desk_line_events before ++ desk_line_events (lines.rest ++ bytes)
orders-split lines bytes =
    let own = events_by DeskLines lines.ended in
    ap (λ b. desk_line_events (b ++ bytes)) lines.whole
    ∙ ap desk_line_events (append_assoc (flat_map with_lf lines.ended) lines.rest bytes)
    ∙ events_in-ended DeskLines lines.ended (lines.rest ++ bytes) lines.each
    ∙ ap (λ (events : List InputEvent). events ++ desk_line_events (lines.rest ++ bytes)) (sym (
    ap desk_line_events lines.whole ∙ events_in-ended DeskLines lines.ended lines.rest lines.each
    ∙ ap (λ (events : List InputEvent). own ++ events) (orders-none lines.rest lines.no_lf) ∙ append-nil own))

-- they are those in the partial line before and these bytes
pub orders_after-split : {before : List ℕ} (lines : Splits before) (bytes : List ℕ)
    → orders_after before bytes ≡ desk_line_events (lines.rest ++ bytes)
orders_after-split {before} lines bytes =
    ap (λ (events : List InputEvent). drop (length (desk_line_events before)) events) (orders-split lines bytes)
    ∙ drop-append_seam (desk_line_events before) (desk_line_events (lines.rest ++ bytes))

pub orders_after-nothing : (before : List ℕ) → orders_after before [] ≡ []
orders_after-nothing before = grind (arith, common_steps)

orders-append : (before bytes : List ℕ)
    → desk_line_events (before ++ bytes) ≡ desk_line_events before ++ orders_after before bytes
orders-append before bytes =
    let lines = splits before in
    orders-split lines bytes
    ∙ ap (λ (events : List InputEvent). desk_line_events before ++ events) (sym (orders_after-split lines bytes))

pub orders_after-append : (before first second : List ℕ)
    → orders_after before (first ++ second) ≡ orders_after before first ++ orders_after (before ++ first) second
orders_after-append before first second =
    let later = orders_after (before ++ first) second in
    append_cancel_left (desk_line_events before) _ (orders_after before first ++ later)
    (sym (orders-append before (first ++ second)) ∙ ap desk_line_events (sym (append_assoc before first second))
    ∙ orders-append (before ++ first) second
    ∙ ap (λ (events : List InputEvent). events ++ later) (orders-append before first)
    ∙ append_assoc (desk_line_events before) (orders_after before first) later)

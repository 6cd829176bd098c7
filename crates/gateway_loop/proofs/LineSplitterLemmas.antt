-- How a line splitter continues with bytes, from slice to slice and from line to line.
use Rattle.std.proofs.Common.{◌≡◌, ◌≢◌, ℕ, ◌<◌, ◌^◌, List, [], ◌∷◌, ◌++◌, length, take, refl, ap, sym, ◌∙◌}
use Rattle.std.proofs.Common.{append_assoc, append-nil, arith}
use Rattle.std.specs.Prelude.{Result}
use Rattle.std.specs.List.{flat_map}
use Rattle.std.specs.Str.Lines.{strip_carriage_return}
use Rattle.std.proofs.lemmas.Result.{MatchResult-weaker}
use Rattle.std.proofs.lemmas.List.Elements.{All-append, All-cons, All-nil}
use Rattle.std.proofs.lemmas.List.{map-append, nil_from_length, length-take}
use Rattle.learned_devices.specs.DeviceStoreState.{DeviceStoreState}
use Rattle.gateway_loop.specs.declared.driver.Driver.{Driver}
use Rattle.gateway_loop.specs.declared.line_splitter.LineSource.{LineSource}
use Rattle.gateway_loop.specs.declared.line_splitter.LineSource.TheVariants.{ScriptLines}
use Rattle.gateway_loop.specs.declared.line_splitter.LineSplitter.{LineSplitter}
use Rattle.gateway_loop.specs.OutputSpecs.{OutputSpec}
use Rattle.gateway_loop.specs.Script.{HasNoLf, event_of_script_line, script, with_lf}
use Rattle.gateway_loop.specs.Processing.{HasNoReadyPacket}
use Rattle.gateway_loop.specs.private.DriverSteps.{DriverBreaks, Takes, TakesOrBreaks, TakesOrStops}
use Rattle.gateway_loop.specs.private.LineSplitting.{TakesEndedLines, BreaksInBytes}
use Rattle.gateway_loop.specs.private.Lines.{max_partial_line, KeepsTruncatedLine, event_of_line_from, events_by}
use Rattle.gateway_loop.proofs.LineLemmas.{ended-append, script-last}
use Rattle.gateway_loop.proofs.ListLemmas.{take_take}
use Rattle.gateway_loop.proofs.LongLineLemmas.{TakesOrBreaks-truncated}
use Rattle.gateway_loop.proofs.ProcessingLemmas.{takes-nothing, takes-append, processes-break}

pub keeps-nothing : KeepsTruncatedLine [] []
keeps-nothing = record { no_lf = All-nil (λ byte. byte ≢ 10); is = refl }

-- what is kept of more bytes
pub take-kept : {tail kept : List ℕ} (bytes : List ℕ) → KeepsTruncatedLine tail kept
    → take max_partial_line (kept ++ bytes) ≡ take max_partial_line (tail ++ bytes)
take-kept {tail} bytes keeps =
    ap (λ s. take max_partial_line (s ++ bytes)) keeps.is ∙ take_take max_partial_line tail bytes

-- if nothing is kept, nothing arrived
pub nothing-kept : {tail kept : List ℕ} → KeepsTruncatedLine tail kept → length kept ≡ 0 → tail ≡ []
nothing-kept {tail} keeps none =
    nil_from_length tail (omega (arith, none, ap length keeps.is, length-take max_partial_line tail))

events_by-append : (lines : LineSource) (first second : List (List ℕ))
    → events_by lines (first ++ second) ≡ events_by lines first ++ events_by lines second
events_by-append lines first second =
    map-append (λ line. event_of_line_from lines (strip_carriage_return line)) first second

module _ {O S : Type 0} {stored : S → DeviceStoreState} {output : OutputSpec O} {lines : LineSource} where
  abbrev pub first_splitter : {old new : LineSplitter O S} {bytes : List ℕ}
      → TakesEndedLines stored output lines old new bytes → LineSplitter O S
  first_splitter {old = old} taken = old

  pub takes_lines-nothing : (old : LineSplitter O S) {tail : List ℕ} → HasNoReadyPacket old.driver.gateway.now
      → old.driver.items < 2 ^ 64 → KeepsTruncatedLine tail old.partial
      → TakesEndedLines stored output lines old old (tail ++ [])
  takes_lines-nothing old {tail} idle fits keeps = record {
    ended = [];
    rest = tail;
    whole = append-nil tail;
    each = All-nil HasNoLf;
    keeps = keeps;
    taken = takes-nothing output old.driver idle fits;
  }

  -- bytes after bytes whose ended lines were taken
  pub takes_lines-append : {old mid new : LineSplitter O S} {first : List ℕ} (second : List ℕ)
      → (taken : TakesEndedLines stored output lines old mid first)
      → TakesEndedLines stored output lines mid new (taken.rest ++ second)
      → TakesEndedLines stored output lines old new (first ++ second)
  takes_lines-append second taken later = record {
    ended = taken.ended ++ later.ended;
    rest = later.rest;
    whole = ended-append second taken.ended later.ended taken.rest later.rest taken.whole later.whole;
    each = All-append HasNoLf taken.ended later.ended taken.each later.each;
    keeps = later.keeps;
    taken = rw (events_by-append lines taken.ended later.ended) (takes-append output taken.taken later.taken);
  }

  -- bytes after them in which an answer is not written completely
  pub takes_lines-break : {old mid new : LineSplitter O S} {first : List ℕ} (second : List ℕ)
      → (taken : TakesEndedLines stored output lines old mid first)
      → BreaksInBytes stored output lines mid new (taken.rest ++ second)
      → BreaksInBytes stored output lines old new (first ++ second)
  takes_lines-break {old} {mid} {new} second taken later = record {
    ended = taken.ended ++ later.ended;
    line = later.line;
    more = later.more;
    whole = ended-append second taken.ended later.ended taken.rest _ taken.whole later.whole;
    each = All-append HasNoLf taken.ended later.ended taken.each later.each;
    no_lf = later.no_lf;
    broken = rw (events_by-append lines taken.ended later.ended)
        (processes-break output old.driver mid.driver new.driver taken.taken.processed later.broken);
  }

  -- bytes that end no line
  pub takes_lines-partial : {old mid new : LineSplitter O S} {bytes : List ℕ} (more : List ℕ) → HasNoLf more
      → new.driver ≡ mid.driver → new.partial ≡ take max_partial_line (mid.partial ++ more)
      → TakesEndedLines stored output lines old mid bytes → TakesEndedLines stored output lines old new (bytes ++ more)
  takes_lines-partial more no_lf same kept taken = record {
    ended = taken.ended;
    rest = taken.rest ++ more;
    whole = ap (λ s. s ++ more) taken.whole ∙ append_assoc (flat_map with_lf taken.ended) taken.rest more;
    each = taken.each;
    keeps = record {
      no_lf = All-append (λ byte. byte ≢ 10) taken.rest more taken.keeps.no_lf no_lf;
      is = kept ∙ take-kept more taken.keeps;
    };
    taken = rw same taken.taken;
  }

  -- one line that LF ends, some bytes of which arrived before
  pub takes_lines-line : (old new : LineSplitter O S) (tail bytes : List ℕ) → HasNoLf tail → HasNoLf bytes
      → new.partial ≡ []
      → Takes stored output old.driver new.driver
      (event_of_line_from lines (strip_carriage_return (tail ++ bytes)) ∷ [])
      → TakesEndedLines stored output lines old new (tail ++ (bytes ++ 10 ∷ []))
  takes_lines-line old new tail bytes no_lf none emptied takes = record {
    ended = (tail ++ bytes) ∷ [];
    rest = [];
    whole = rw (append-nil, append-nil, append_assoc) refl;
    each = All-cons HasNoLf (tail ++ bytes) [] (All-append (λ byte. byte ≢ 10) tail bytes no_lf none)
        (All-nil HasNoLf);
    keeps = rw emptied keeps-nothing;
    taken = takes;
  }

  -- and an answer that is not written completely at it, whatever follows
  pub breaks_in-line : (old new : LineSplitter O S) (tail bytes more : List ℕ) → HasNoLf tail → HasNoLf bytes
      → DriverBreaks stored output old.driver new.driver []
      (event_of_line_from lines (strip_carriage_return (tail ++ bytes)))
      → BreaksInBytes stored output lines old new (tail ++ (bytes ++ 10 ∷ more))
  breaks_in-line old new tail bytes more no_lf none broken = record {
    ended = [];
    line = tail ++ bytes;
    more = more;
    whole = sym (append_assoc tail bytes (10 ∷ more));
    each = All-nil HasNoLf;
    no_lf = All-append (λ byte. byte ≢ 10) tail bytes no_lf none;
    broken = broken;
  }

-- the line of a script that its end ends, in place of the script
pub takes_script-last : {O S : Type 0} (stored : S → DeviceStoreState) (output : OutputSpec O) {A E : Type 0}
    (result : Result A E) (old new : Driver O S) {tail kept : List ℕ} → KeepsTruncatedLine tail kept → length kept ≢ 0
    → TakesOrBreaks stored output result old new (event_of_script_line kept)
    → TakesOrStops stored output result old new (script tail)
takes_script-last stored output result old new {tail} {kept} keeps some given =
    let is = script-last tail keeps.no_lf
    (λ none. some (omega (arith, none, ap length keeps.is, length-take max_partial_line tail))) in
    MatchResult-weaker result
    (TakesOrBreaks-truncated stored output result old new ScriptLines (λ line. line) (λ line. omega arith) kept tail
    keeps.is given)
    (λ _ takes. rw is takes)
    (λ _ broken. record { events = []; event = event_of_script_line tail; whole = is; broken = broken })

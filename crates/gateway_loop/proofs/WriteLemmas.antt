-- How the writes of a text, and of an answer, continue.
use Rattle.std.proofs.Common.{ℕ, List, [], ◌++◌, ap, sym, ◌∙◌, append_assoc, append-nil, length-append, arith, ◌≡◌}
use Rattle.std.proofs.Common.{Bool, ◌∷◌, subst, Ok, Err}
use Rattle.std.specs.Prelude.{Result, IsErrAnd, IsOk, OnOk, MatchResult}
use Rattle.std.proofs.lemmas.Result.{MatchResult-weaker, err_from_is_err_and}
use Rattle.byte_io.specs.Streams.{SinkValue}
use Rattle.byte_io.specs.Writes.{Writes, WritesPart, WritesText}
use Rattle.byte_io.proofs.ForCallers.{writes-trans, writes_part-trans}
use Rattle.gateway_core.specs.Step.{Answer}
use Rattle.gateway_loop.specs.OutputSpecs.{PutsOrBreaks, OutputSpec, output_by_flag}
use Rattle.gateway_loop.specs.TextOutput.{PutsText, BreaksText}

pub OnOk-where_ok : {A E P : Type 0} (r : Result A E) → IsOk r → OnOk r P → P
OnOk-where_ok (Ok x) well p = p
OnOk-where_ok (Err x) well p = absurd cc

-- ---- a text

-- a prefix of the front is a prefix of all
pub part_of_front : (old new : SinkValue) (front back : List ℕ) → WritesPart old new [] front
    → WritesPart old new [] (front ++ back)
part_of_front old new front back cut_short = record {
  part = cut_short.part;
  unwritten = cut_short.unwritten ++ back;
  whole = ap (λ s. s ++ back) cut_short.whole ∙ append_assoc cut_short.part cut_short.unwritten back;
  unwritten_is_not_empty = let some = cut_short.unwritten_is_not_empty in omega
      (arith, length-append cut_short.unwritten back);
  earlier = cut_short.earlier;
  last = cut_short.last;
  accepts = cut_short.accepts;
  each = cut_short.each;
  last_write_moves_nothing = cut_short.last_write_moves_nothing;
}

-- after the front, a prefix of the back
pub part_of_back : (old mid new : SinkValue) (front back : List ℕ) → WritesText old mid front
    → WritesPart mid new [] back → WritesPart old new [] (front ++ back)
part_of_back old mid new front back first second =
    let cut_short = rw append-nil at (writes_part-trans old mid new front [] back first second) in
    record {
      part = front ++ cut_short.part;
      unwritten = cut_short.unwritten;
      whole = ap (λ s. front ++ s) cut_short.whole ∙ sym (append_assoc front cut_short.part cut_short.unwritten);
      unwritten_is_not_empty = cut_short.unwritten_is_not_empty;
      earlier = cut_short.earlier;
      last = cut_short.last;
      accepts = cut_short.accepts;
      each = cut_short.each;
      last_write_moves_nothing = cut_short.last_write_moves_nothing;
    }

-- the front was written, and then the back
pub writes-append : {A E : Type 0} (old mid new : SinkValue) (r : Result A E) (front back : List ℕ)
    → WritesText old mid front → Writes mid new r back → Writes old new r (front ++ back)
writes-append old mid new r front back first second =
    MatchResult-weaker r second (λ _ text. writes-trans old mid new front back first text)
    (λ _ part. part_of_back old mid new front back first part)

-- an error after a prefix
pub writes_part : {A E : Type 0} (Q : E → Type 0) (old new : SinkValue) (r : Result A E) (text : List ℕ)
    → IsErrAnd r Q → WritesPart old new [] text → Writes old new r text
writes_part Q old new r text err part = rw (err_from_is_err_and r err).1 part

-- ---- an answer

pub puts_one : {A E : Type 0} (r : Result A E) (says : Answer → List ℕ) (old new : SinkValue) (answer : Answer)
    → Writes old new r (says answer)
    → MatchResult r (λ _. PutsText says old new (answer ∷ [])) (λ _. BreaksText says old new [] answer)
puts_one (Ok done) says old new answer text = subst (WritesText old new) (sym (append-nil (says answer))) text
puts_one (Err failed) says old new answer part = part

-- the flag stays
pub puts_by : {V A E : Type 0} (output : Bool → OutputSpec V) (r : Result A E) (old new : Bool × V) (answer : Answer)
    → new.0 ≡ old.0 → PutsOrBreaks (output old.0) r old.1 new.1 answer
    → PutsOrBreaks (output_by_flag output) r old new answer
puts_by output (Ok done) old new answer same out = (same, out)
puts_by output (Err failed) old new answer same out = (same, out)

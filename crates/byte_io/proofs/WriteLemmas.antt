-- The steps of writing a text.
use Rattle.std.proofs.lemmas.Grind.{common_steps}
use Rattle.std.proofs.Common.{◌≡◌, ℕ, ◌-◌, ◌≤◌, List, [], ◌∷◌, ◌++◌, length, take, drop, Some, ap, sym, ◌∙◌}
use Rattle.std.proofs.Common.{append-nil, append_assoc, arith, length-drop}
use Rattle.std.specs.Io.KnownBytes.{Appends}
use Rattle.std.proofs.lemmas.List.{length-take, take-append-drop}
use Rattle.std.proofs.lemmas.List.Elements.{All-append, All-nil, All-push}
use Rattle.std.proofs.Math.Seq.{take-length}
use Rattle.byte_io.specs.Streams.{SinkValue}
use Rattle.byte_io.specs.Transfers.{MovesBytes}
use Rattle.byte_io.specs.Writes.{WritesPart, WritesText}
use Rattle.byte_io.proofs.TransferLemmas.{accepts-nil, accepts-trans}

pub writes-nil : (now : SinkValue) → WritesText now now []
writes-nil now = record { writes = []; accepts = accepts-nil now; each = All-nil MovesBytes }

pub writes-trans : (old mid new : SinkValue) (first second : List ℕ) → WritesText old mid first
    → WritesText mid new second → WritesText old new (first ++ second)
writes-trans old mid new first second a b = grind (arith, common_steps, All-append, accepts-trans)

-- a text, and then a part of the next one
pub writes_part-trans : (old mid new : SinkValue) (first front text : List ℕ) → WritesText old mid first
    → WritesPart mid new front text → WritesPart old new (first ++ front) text
writes_part-trans old mid new first front text a b = record {
  part = b.part;
  unwritten = b.unwritten;
  whole = b.whole;
  unwritten_is_not_empty = b.unwritten_is_not_empty;
  earlier = a.writes ++ b.earlier;
  last = b.last;
  accepts = rw (append_assoc a.writes b.earlier (b.last ∷ []), append_assoc first front b.part)
      (accepts-trans old mid new a.writes (b.earlier ++ b.last ∷ []) first (front ++ b.part) a.accepts b.accepts);
  each = All-append MovesBytes a.writes b.earlier a.each b.each;
  last_write_moves_nothing = b.last_write_moves_nothing;
}

-- what is written so far, and what remains
pub record Left (old new : SinkValue) (text rest : List ℕ) : Type 0 where
  pub done : List ℕ
  pub whole : text ≡ done ++ rest
  pub written : WritesText old new done

-- after a write that accepted some bytes
pub left_after : (old mid new : SinkValue) (text rest : List ℕ) (n : ℕ) → Left old mid text rest
    → (n ≡ 0 → ⊥) → n ≤ length rest → new.writes ≡ mid.writes ++ Some (take n rest) ∷ []
    → Appends mid.held new.held (take n rest) → Left old new text (take (length rest - n) (drop n rest))
left_after old mid new text rest n before some within made held = record {
  done = before.done ++ take n rest;
  whole =
      before.whole ∙ ap (λ s. before.done ++ s) (sym (take-append-drop n rest))
      ∙ sym (append_assoc before.done (take n rest) (drop n rest))
      ∙ ap (λ s. (before.done ++ take n rest) ++ s) (sym (all_taken rest n));
  written = writes-trans old mid new before.done (take n rest) before.written (record {
    writes = Some (take n rest) ∷ [];
    accepts = record { made = made; accepted = append-nil (take n rest); held = held };
    each = All-push MovesBytes [] (Some (take n rest)) (All-nil MovesBytes)
        (λ none. some (let e = ap length none in omega (arith, e, length-take n rest)));
  });
}
  where
    all_taken : (rest : List ℕ) (n : ℕ) → take (length rest - n) (drop n rest) ≡ drop n rest
    all_taken rest n = rw (← length-drop n rest) (take-length (drop n rest))

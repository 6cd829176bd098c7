-- Outputs for answers, and how contracts know what was written. The lemmas are in this file because the ghost members
-- of an `impl` cite them, and cite nothing outside `specs`.
use Rattle.std.specs.Prelude.{◌≡◌, ◌⊎◌, Bool, List, [], ◌∷◌, ◌++◌, Result, MatchResult}
use Rattle.std.proofs.Common.{append_assoc, inl, inr, refl, subst, sym, ◌∙◌}
use Rattle.gateway_core.specs.Step.{Answer}

-- puts: exactly these answers were written from the first state to the second. breaks: these answers were written, and
-- one more at most in part. Both continue from the current state of an output.
pub record OutputSpec (O : Type 0) : Type 1 where
  pub puts : (old new : O) (answers : List Answer) → Type 0
  pub breaks : (old new : O) (complete : List Answer) (cut : Answer) → Type 0
  pub puts_nothing : (old : O) → puts old old []
  pub puts_join : (old mid new : O) (first second : List Answer) → puts old mid first → puts mid new second
      → puts old new (first ++ second)
  pub breaks_join : (old mid new : O) (first second : List Answer) (last : Answer) → puts old mid first
      → breaks mid new second last → breaks old new (first ++ second) last

-- one answer was written, or at most a part of it
abbrev pub PutsOrBreaks : {O A E : Type 0} → OutputSpec O → Result A E → (old new : O) → Answer → Type 0
PutsOrBreaks output result old new answer =
    MatchResult result (λ _. output.puts old new (answer ∷ [])) (λ _. output.breaks old new [] answer)

-- an output, given as one of the value that it shows
abbrev pub output_by_view : {O V : Type 0} → (O → V) → OutputSpec V → OutputSpec O
output_by_view view output = record {
  puts = λ old new. output.puts (view old) (view new);
  breaks = λ old new. output.breaks (view old) (view new);
  puts_nothing = λ old. output.puts_nothing (view old);
  puts_join = λ old mid new. output.puts_join (view old) (view mid) (view new);
  breaks_join = λ old mid new. output.breaks_join (view old) (view mid) (view new);
}

-- An output has a constant flag: it determines which of two outputs the answers go to.
module _ {V : Type 0} (output : Bool → OutputSpec V) where
  abbrev pub PutsByFlag : (old new : Bool × V) → List Answer → Type 0
  PutsByFlag old new answers = (new.0 ≡ old.0) × (output old.0).puts old.1 new.1 answers

  abbrev pub BreaksByFlag : (old new : Bool × V) → List Answer → Answer → Type 0
  BreaksByFlag old new answers last = (new.0 ≡ old.0) × (output old.0).breaks old.1 new.1 answers last

  pub puts_join_by_flag : (old mid new : Bool × V) (first second : List Answer) → PutsByFlag old mid first
      → PutsByFlag mid new second
      → PutsByFlag old new (first ++ second)
  puts_join_by_flag old mid new first second (same, a) (still, b) = (
    still ∙ same,
    (output old.0).puts_join old.1 mid.1 new.1 first second a
        (subst (λ flag. (output flag).puts mid.1 new.1 second) same b),
  )

  pub breaks_join_by_flag : (old mid new : Bool × V) (first second : List Answer) (last : Answer)
      → PutsByFlag old mid first
      → BreaksByFlag mid new second last → BreaksByFlag old new (first ++ second) last
  breaks_join_by_flag old mid new first second last (same, a) (still, b) = (
    still ∙ same,
    (output old.0).breaks_join old.1 mid.1 new.1 first second last a
        (subst (λ flag. (output flag).breaks mid.1 new.1 second last) same b),
  )

  abbrev pub output_by_flag : OutputSpec (Bool × V)
  output_by_flag = record {
    puts = PutsByFlag;
    breaks = BreaksByFlag;
    puts_nothing = λ old. (refl, (output old.0).puts_nothing old.1);
    puts_join = puts_join_by_flag;
    breaks_join = breaks_join_by_flag;
  }

-- Each answer goes to two outputs, to the second after the first.
module _ {A B : Type 0} (one : OutputSpec A) (other : OutputSpec B) where
  abbrev pub PutsBoth : (old new : A × B) → List Answer → Type 0
  PutsBoth old new answers = one.puts old.0 new.0 answers × other.puts old.1 new.1 answers

  -- the last answer is written incompletely to the first output and not to the second, or whole to the first and
  -- incompletely to the second
  abbrev pub BreaksInPair : (old new : A × B) → List Answer → Answer → Type 0
  BreaksInPair old new answers last =
      (one.breaks old.0 new.0 answers last × other.puts old.1 new.1 answers)
      ⊎ (one.puts old.0 new.0 (answers ++ last ∷ []) × other.breaks old.1 new.1 answers last)

  pub breaks_join_in_pair : (old mid new : A × B) (first second : List Answer) (last : Answer) → PutsBoth old mid first
      → BreaksInPair mid new second last → BreaksInPair old new (first ++ second) last
  breaks_join_in_pair old mid new first second last a (inl b) = inl (
    one.breaks_join old.0 mid.0 new.0 first second last a.0 b.0,
    other.puts_join old.1 mid.1 new.1 first second a.1 b.1,
  )
  breaks_join_in_pair old mid new first second last a (inr b) = inr (
    subst (one.puts old.0 new.0) (sym (append_assoc first second (last ∷ [])))
        (one.puts_join old.0 mid.0 new.0 first (second ++ last ∷ []) a.0 b.0),
    other.breaks_join old.1 mid.1 new.1 first second last a.1 b.1,
  )

  abbrev pub paired_output : OutputSpec (A × B)
  paired_output = record {
    puts = PutsBoth;
    breaks = BreaksInPair;
    puts_nothing = λ old. (one.puts_nothing old.0, other.puts_nothing old.1);
    puts_join = λ old mid new first second a b. (
      one.puts_join old.0 mid.0 new.0 first second a.0 b.0,
      other.puts_join old.1 mid.1 new.1 first second a.1 b.1,
    );
    breaks_join = breaks_join_in_pair;
  }

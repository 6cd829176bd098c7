-- A sink as an output: it receives the text of each answer.
use Rattle.std.specs.Prelude.{ℕ, List}
use Rattle.std.specs.List.{flat_map}
use Rattle.std.proofs.Common.{sym, subst}
use Rattle.std.proofs.lemmas.List.Concat.{flat_map-append}
use Rattle.gateway_core.specs.Step.{Answer}
use Rattle.byte_io.specs.Streams.{SinkValue}
use Rattle.byte_io.specs.Writes.{WritesPart, WritesText}
use Rattle.byte_io.proofs.ForCallers.{writes-nil, writes-trans, writes_part-trans}
use Rattle.gateway_loop.specs.OutputSpecs.{OutputSpec}

module _ (says : Answer → List ℕ) where
  -- a sink received the texts of the answers, and no write went wrong
  abbrev pub PutsText : (old new : SinkValue) (answers : List Answer) → Type 0
  PutsText old new answers = WritesText old new (flat_map says answers)

  -- a sink received the texts of the answers, and a write of the last one's text went wrong
  abbrev pub BreaksText : (old new : SinkValue) (answers : List Answer) (last : Answer) → Type 0
  BreaksText old new answers last = WritesPart old new (flat_map says answers) (says last)

  abbrev pub text_output : OutputSpec SinkValue
  text_output = record {
    puts = PutsText;
    breaks = BreaksText;
    puts_nothing = writes-nil;
    puts_join = λ old mid new first second a b.
        subst (WritesText old new) (sym (flat_map-append says first second))
        (writes-trans old mid new (flat_map says first) (flat_map says second) a b);
    breaks_join = λ old mid new first second last a b.
        subst (λ front. WritesPart old new front (says last)) (sym (flat_map-append says first second))
        (writes_part-trans old mid new (flat_map says first) (flat_map says second) (says last) a b);
  }

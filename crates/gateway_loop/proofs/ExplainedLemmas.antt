-- The lines that explain packets are inserted into a text.
use Rattle.std.proofs.Common.{◌≡◌, ℕ, List, [], ◌∷◌, ◌++◌, refl, ap, sym, ◌∙◌, append_assoc}
use Rattle.std.specs.List.{flat_map}
use Rattle.gateway_core.specs.Step.{Answer}
use Rattle.byte_io.specs.Transfers.{bytes_of}
use Rattle.byte_io.proofs.ForCallers.{writes-bytes}
use Rattle.gateway_loop.specs.Explained.{DifferByExplanations, DifferByExplanationsAfter, ExplanationsOnlyAddLines}
use Rattle.gateway_loop.specs.Written.{radio_chunk_line}

-- each answer has some text before the one for the desk
module _ (before : Answer → List ℕ) where
  abbrev plain_of : Answer → List ℕ
  plain_of answer = before answer ++ answer.desk

  abbrev explained_of : Answer → List ℕ
  explained_of answer = before answer ++ (answer.explanation ++ answer.desk)

  explained-text : (answers : List Answer)
      → DifferByExplanations before answers (flat_map plain_of answers) (flat_map explained_of answers)
  explained-text [] = (refl, refl)
  explained-text (answer ∷ answers) =
      let line = answer.explanation in (
        flat_map plain_of answers,
        flat_map explained_of answers,
        append_assoc (before answer) answer.desk _,
        append_assoc (before answer) (line ++ answer.desk) _
            ∙ ap (λ text. before answer ++ text) (append_assoc line answer.desk _),
        explained-text answers,
      )

  differ : (answers : List Answer) (held plain explained : List ℕ) → plain ≡ held ++ flat_map plain_of answers
      → explained ≡ held ++ flat_map explained_of answers
      → DifferByExplanationsAfter before answers held plain explained
  differ answers held plain explained first second = record {
    plain_added = flat_map plain_of answers;
    explained_added = flat_map explained_of answers;
    plain_is = first;
    explained_is = second;
    differ = explained-text answers;
  }

pub explanations_only_add_lines : ExplanationsOnlyAddLines
explanations_only_add_lines = record {
  replay = λ answers old new other first second.
      differ (λ answer. radio_chunk_line answer.radio) answers (bytes_of old.writes) (bytes_of new.writes)
      (bytes_of other.writes) (writes-bytes old new _ first) (writes-bytes old other _ second);
  desk = λ answers old new other first second.
      differ (λ answer. []) answers (bytes_of old.1.writes) (bytes_of new.1.writes) (bytes_of other.1.writes)
      (writes-bytes old.1 new.1 _ first.1) (writes-bytes old.1 other.1 _ second.1);
  serial = λ answers old new other first second.
      writes-bytes old.0 new.0 _ first.0 ∙ sym (writes-bytes old.0 other.0 _ second.0);
}

use Rattle.esp3_frames.proofs.FrontLemmas.{front_never, front_partial, front-empty, partial_short, whole-at_front}
use Rattle.esp3_frames.proofs.laws.computed_front_agrees.Goals as goal

pub returns : goal.returns
returns c = record {
  never = front_never;
  partial = λ w partial. (front_partial w partial, partial_short w partial);
  whole = whole-at_front;
  empty = front-empty;
}

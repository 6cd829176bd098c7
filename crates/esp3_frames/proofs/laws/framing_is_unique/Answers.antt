use Rattle.esp3_frames.proofs.FramingLemmas.{framing_of, only_framing, rest_may_become, packets_and_rest-may_become}
use Rattle.esp3_frames.proofs.laws.framing_is_unique.Goals as goal

pub returns : goal.returns
returns c = record {
  some = framing_of;
  only = λ s r ps. only_framing s ps r;
  rest = λ s. rest_may_become (framing_of s);
  whole_rest = packets_and_rest-may_become;
}

use Rattle.esp3_frames.proofs.FramingLemmas.{framing_in_parts}
use Rattle.esp3_frames.proofs.laws.framing_in_parts.Goals as goal

pub returns : goal.returns
returns c = record { packets = λ s t. (framing_in_parts s t).0; rest = λ s t. (framing_in_parts s t).1 }

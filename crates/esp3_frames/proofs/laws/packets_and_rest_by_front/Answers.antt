use Rattle.std.proofs.Common.{ap}
use Rattle.esp3_frames.specs.PacketsAndRest.{PacketsAndRest}
use Rattle.esp3_frames.proofs.PacketsAndRestByFront.{frames-never, frames-skipped, frames-partial, frames-whole}
use Rattle.esp3_frames.proofs.FramingLemmas.{packets_and_rest-one}
use Rattle.esp3_frames.proofs.laws.packets_and_rest_by_front.Goals as goal

pub returns : goal.returns
returns c = record {
  never = frames-never;
  skipped = frames-skipped;
  partial = frames-partial;
  whole = frames-whole;
  one = λ p w is. ap (λ (f : PacketsAndRest). f.ready) (packets_and_rest-one p w is);
}

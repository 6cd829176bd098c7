use Rattle.esp3_frames.proofs.FrontByHeader.{front-short, front-bad, front-good}
use Rattle.esp3_frames.proofs.laws.front_by_header.Goals as goal

pub returns : goal.returns
returns c = record { short = front-short; bad = front-bad; good = front-good }

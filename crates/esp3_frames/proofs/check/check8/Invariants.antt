use Rattle.std.proofs.Common.{◌≡◌, take}
use Rattle.esp3_frames.specs.Check.{check}
use Rattle.esp3_frames.proofs.check.check8.Given as goal

abbrev pub invariant-loop-byte : goal.invariant-loop-byte
invariant-loop-byte l = l.check ≡ check (take l.byte-index l.b)

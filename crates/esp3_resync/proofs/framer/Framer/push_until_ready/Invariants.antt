use Rattle.std.proofs.Common.{◌≡◌, ◌≤◌, ◌-◌, ◌++◌, length, take}
use Rattle.esp3_frames.specs.PacketsAndRest.{packets_and_rest}
use Rattle.esp3_resync.proofs.framer.Framer.push_until_ready.Given as goal

-- the bytes so far are processed, and completed no packet
abbrev pub invariant-loop-count : goal.invariant-loop-count
invariant-loop-count l = record {
  within : l.count ≤ length l.bytes;
  taken : l.self ≡ packets_and_rest (l.fn.self.rest ++ take l.count l.bytes);
  none : length l.self.ready ≡ 0;
}

abbrev pub decreases-loop-count : goal.decreases-loop-count
decreases-loop-count l = length l.bytes - l.count

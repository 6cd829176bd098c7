use Rattle.std.proofs.Common.{◌≡◌, ℕ, ◌+◌, List, ◌++◌, length, take}
use Rattle.esp3_frames.specs.Check.{check}
use Rattle.esp3_resync.specs.private.RunningCrcs.{HasRunningCrcs}
use Rattle.esp3_resync.proofs.window.record_crcs.Given as goal

-- the CRCs of the bytes so far are stored
abbrev pub invariant-loop-i : goal.invariant-loop-i
invariant-loop-i l = record {
  len : length l.crcs ≡ length l.fn.crcs;
  crcs_are_running : (g w : List ℕ) (s : ℕ) → l.at ≡ s + length w → HasRunningCrcs g w s l.fn.crcs
      → HasRunningCrcs g (w ++ take l.i l.bytes) s l.crcs × (l.all ≡ check (g ++ (w ++ take l.i l.bytes)));
}

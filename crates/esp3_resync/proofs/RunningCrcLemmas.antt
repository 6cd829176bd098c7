-- The running CRCs of a window while bytes come and go.
use Rattle.std.proofs.Common.{◌≡◌, ℕ, ◌+◌, ◌<◌, ◌≤◌, List, [], ◌∷◌, ◌++◌, length, take, drop, slice_set, get_or}
use Rattle.std.proofs.Common.{append_assoc, arith, length-append, length-drop}
use Rattle.std.proofs.Math.Seq.{take-add}
use Rattle.std.proofs.lemmas.List.{take_all, take-append-le, get_or-set_same, get_or-set_other}
use Rattle.esp3_frames.specs.Check.{check}
use Rattle.esp3_resync.specs.private.RunningCrcs.{HasRunningCrcs}

-- after the last byte is the CRC of all bytes
pub running_crcs-last : (g w c : List ℕ) (s n : ℕ) → n ≡ s + length w → HasRunningCrcs g w s c
    → get_or c n 0 ≡ check (g ++ w)
running_crcs-last g w c s n place running = grind (arith, running (length w), take_all)

-- one byte more
pub running_crcs-push : (g w c : List ℕ) (s x k crc : ℕ) → k ≡ s + length w + 1 → k < length c
    → crc ≡ check (g ++ (w ++ x ∷ [])) → HasRunningCrcs g w s c → HasRunningCrcs g (w ++ x ∷ []) s (slice_set c k crc)
running_crcs-push g w c s x k crc place fits is running = λ i within.
    grind (arith, running i, get_or-set_same, get_or-set_other, take-append-le, take_all, length-append)

-- the bytes from the index k on
pub running_crcs-drop : (g w c : List ℕ) (s k : ℕ) → k ≤ length w → HasRunningCrcs g w s c
    → HasRunningCrcs (g ++ take k w) (drop k w) (s + k) c
running_crcs-drop g w c s k within running = λ i below.
    grind (arith, running (k + i), take-add k i w, append_assoc, length-drop k w)

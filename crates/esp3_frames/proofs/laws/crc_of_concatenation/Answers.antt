use Rattle.esp3_frames.proofs.CheckLemmas.{check_parts}
use Rattle.esp3_frames.proofs.ZerosLemmas.{check-append_zeros, zeros_period}
use Rattle.esp3_frames.proofs.laws.crc_of_concatenation.Goals as goal

pub returns : goal.returns
returns c = record { parts = check_parts; zeros = check-append_zeros; period = zeros_period }

use Rattle.esp3_frames.proofs.CheckLemmas.{crc_of_appended_byte}
use Rattle.esp3_frames.proofs.laws.crc_of_appended_byte.Goals as goal

pub returns : goal.returns
returns c = crc_of_appended_byte

-- The facts about the definitions that proofs cite, also those of the crates above: the theorems, and their steps.
pub use Rattle.esp3_frames.proofs.CheckLemmas.{crc_of_appended_byte, check_nil}
pub use Rattle.esp3_frames.proofs.FrontByHeader.{front-short, front-good, front-bad, front_after_header-partial}
pub use Rattle.esp3_frames.proofs.FrontByHeader.{front_after_header-whole, front_after_header-never}
pub use Rattle.esp3_frames.proofs.FrontLemmas.{front-empty, whole-at_front, empty_may_become}
pub use Rattle.esp3_frames.proofs.PacketsAndRestByFront.{frames-never, frames-skipped, frames-partial, frames-whole}
pub use Rattle.esp3_frames.proofs.FramingLemmas.{framing_of, rest_may_become, packets_and_rest-may_become}
pub use Rattle.esp3_frames.proofs.FramingLemmas.{framing_in_parts, packets_and_rest-append, packets_and_rest-one}
pub use Rattle.esp3_frames.proofs.FramingLemmas.{framing_length}

-- The facts about the definitions that the crates above cite.
pub use Rattle.byte_io.proofs.TransferLemmas.{concat-more, writes-bytes}
pub use Rattle.byte_io.proofs.WriteLemmas.{writes-nil, writes-trans, writes_part-trans}

-- The facts about the definitions that the crates above cite.
pub use Rattle.profile_rows.proofs.PayloadLemmas.{of-data, of-teach-in, of-other}

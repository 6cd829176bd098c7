-- The facts about the definitions that the crates above cite.
pub use Rattle.profiles_4bs.proofs.ReadLemmas.{not-supported, by-4bs-supported, by-4bs}

-- The facts about the definitions that the crates above cite.
pub use Rattle.profiles_rps.proofs.ReadLemmas.{not-supported, of-no-rows, by-rps-supported, by-1bs-supported}
pub use Rattle.profiles_rps.proofs.ReadLemmas.{by-rps, by-1bs}

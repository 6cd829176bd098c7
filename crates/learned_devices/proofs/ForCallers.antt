-- The facts about the definitions that proofs of the crates above cite.
pub use Rattle.learned_devices.proofs.CommitLemmas.{no_more_commits, one_more_commit, more_commits_then}
pub use Rattle.learned_devices.proofs.CommitLemmas.{more_commits_after, learn_adds_one, relabel_adds_one}
pub use Rattle.learned_devices.proofs.DeviceLemmas.{get-entered}
pub use Rattle.learned_devices.proofs.RangeLemmas.{empty-in, entered-in}

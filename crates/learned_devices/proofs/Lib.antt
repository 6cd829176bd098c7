pub mod CommitLemmas
pub mod DeviceLemmas
pub mod ForCallers
pub mod LabelLemmas
pub mod RangeLemmas

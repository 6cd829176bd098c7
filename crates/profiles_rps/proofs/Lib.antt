pub mod ForCallers
pub mod ReadLemmas

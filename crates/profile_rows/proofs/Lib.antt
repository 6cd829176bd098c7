pub mod ForCallers
pub mod PayloadLemmas

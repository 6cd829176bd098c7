pub mod TransferLemmas
pub mod WriteLemmas
pub mod ForCallers

pub mod StartLemmas
pub mod SessionLemmas

pub mod RequiredLemmas
pub mod CommandLemmas

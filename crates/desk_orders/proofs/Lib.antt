pub mod SpaceLemmas
pub mod WordLemmas
pub mod NumberLemmas
pub mod SpellingLemmas
pub mod LabelLemmas
pub mod OrderLemmas
pub mod ForCallers

pub mod RunningCrcLemmas
pub mod PacketsAndRestLemmas
pub mod HeaderLemmas

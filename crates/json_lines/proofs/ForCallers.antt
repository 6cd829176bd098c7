-- The facts about the definitions that proofs of the crates above cite.
pub use Rattle.json_lines.proofs.TeachTextOutcome.{of_teach_lines}

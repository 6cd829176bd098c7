-- The facts about the definitions that the crates above cite.
pub use Rattle.teach_in.proofs.PlanLemmas.{either, IsOpen, LearnsByTeachIn, Hears, hears-open, AsksDeletion, Refuses}
pub use Rattle.teach_in.proofs.PlanLemmas.{OfPlans, of_plan, of-role, plan-unasked, query-sender, ute-sender}

pub mod ForCallers
pub mod PlanLemmas

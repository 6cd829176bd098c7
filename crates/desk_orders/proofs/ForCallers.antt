-- The facts about the definitions that the crates above cite.
pub use Rattle.desk_orders.proofs.OrderLemmas.{parsed-in_range}

pub mod Limits
pub mod Words
pub mod Orders
pub mod Recipients

pub mod Faults
pub mod Endings
pub mod Started
pub mod SessionRuns
pub mod Restarts

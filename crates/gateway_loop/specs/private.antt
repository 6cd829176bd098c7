-- For private postconditions: no public contract depends on these.
pub mod DriverSteps
pub mod LineSplitting
pub mod Lines

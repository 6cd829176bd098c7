-- For private postconditions: no public contract depends on these.
pub mod Codes
pub mod Failures
pub mod Attempts

-- For private postconditions: no public contract depends on these.
pub mod RunningCrcs
pub mod WindowFronts

pub mod ReadLimit
pub mod Transfers
pub mod Streams
pub mod Writes

pub mod Reading
pub mod Rows
pub mod Profile
pub mod ReadResult
pub mod Payload

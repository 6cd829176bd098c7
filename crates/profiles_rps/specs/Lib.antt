pub mod Rps
pub mod OneBs
pub mod Profiles

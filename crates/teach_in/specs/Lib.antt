pub mod FourByte
pub mod Profiles
pub mod Replies
pub mod Telegrams
pub mod Ute
pub mod Plans

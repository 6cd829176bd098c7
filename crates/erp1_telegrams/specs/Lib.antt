pub mod Telegram
pub mod Contents
pub mod Address

pub mod Lines
pub mod ShownTelegram
pub mod PacketLines
pub mod private

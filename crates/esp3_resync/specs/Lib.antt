pub mod BufferedPacket
pub mod private

pub mod Check
pub mod Packet
pub mod Framing
pub mod PacketsAndRest
pub mod Outcome

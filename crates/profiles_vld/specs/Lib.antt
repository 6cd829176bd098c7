pub mod ElectronicSwitches
pub mod BlindsControl
pub mod Payload
pub mod Profiles

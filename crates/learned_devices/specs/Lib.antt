pub mod Labels
pub mod Devices
pub mod Ranges
pub mod Faults
pub mod CommitCounts
pub mod DeviceStoreState
pub mod StoreCalls

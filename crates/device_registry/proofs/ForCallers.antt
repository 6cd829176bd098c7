-- The facts about the definitions that proofs of the crates above cite: the theorems.
pub use Rattle.device_registry.proofs.DevicesHeld.{devices_are_limited}
pub use Rattle.device_registry.proofs.OpenCalls.{closed_files_are_found, closed_registry_is_found}
pub use Rattle.device_registry.proofs.OpenCalls.{failed_opens_keep_registries, found_devices_are_unique}
pub use Rattle.device_registry.proofs.OpenCalls.{found_in_files, found_in_new_file, held_in_files}

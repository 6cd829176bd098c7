-- The program's fault for each call that failed. Own choice.
use Rattle.std.specs.Prelude.{ℕ, List, codes, if◌then◌else◌}
use Rattle.learned_devices.specs.Faults.{out_of_memory}
use Rattle.device_registry.specs.Faults.{fault_of}
use Rattle.device_registry.specs.declared.fault.OpenFault.{OpenFault}
use Rattle.device_registry.specs.declared.fault.OpenFault.TheVariants.{NotARegistry, Failed}
use Rattle.sqlite.specs.declared.error.Error.{Error}
use Rattle.gateway_main.specs.declared.fault.Fault.{Fault}
use Rattle.gateway_main.specs.declared.fault.Fault.TheVariants.{Database}

-- out of memory
abbrev pub memory_fault : Fault
memory_fault = Database (Failed out_of_memory)

-- SQLite did not open or close the database: it was out of memory, or failed in another way
abbrev pub fault_of_store : Error → Fault
fault_of_store error = Database (Failed (fault_of error))

-- the text of a fault of the database
abbrev pub text_of : OpenFault → List ℕ
text_of NotARegistry = codes "not a registry"
text_of (Failed why) = if why.is_memory then codes "memory" else codes "store"

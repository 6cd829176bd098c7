-- Why a device store fails. Own choice.
use Rattle.std.specs.Prelude.{true, false}
use Rattle.learned_devices.specs.declared.fault.StoreFault.{StoreFault}

-- out of memory
abbrev pub out_of_memory : StoreFault
out_of_memory = record { is_memory = true }

-- the database does not answer
abbrev pub store_failed : StoreFault
store_failed = record { is_memory = false }

-- The fault for each error of SQLite.
use Rattle.std.specs.Prelude.{◌≡◌, false}
use Rattle.sqlite.specs.declared.error.Error.{Error}
use Rattle.sqlite.specs.declared.error.Error.TheVariants.{SqliteFailure}
use Rattle.sqlite.specs.declared.error.ErrorCode.TheVariants.{OutOfMemory}
use Rattle.learned_devices.specs.declared.fault.StoreFault.{StoreFault}
use Rattle.learned_devices.specs.Faults.{store_failed, out_of_memory}

-- SQLite was out of memory, or failed in another way
abbrev pub fault_of : Error → StoreFault
fault_of (SqliteFailure OutOfMemory) = out_of_memory
fault_of _ = store_failed

-- if the condition holds, the error is that SQLite was out of memory
abbrev pub IsOutOfMemoryIf : Type 0 → Error → Type 0
IsOutOfMemoryIf Whole error = (fault_of error).is_memory ≡ false → ¬ Whole

-- The calls of the device table, without its cache.
use Rattle.std.specs.Prelude.{◌≡◌, Bool, true, false, is_some, IsTrue, Some, Result, Ok, Err}
use Rattle.std.specs.FinMap.{get}
use Rattle.sqlite.specs.State.{State, HasCleanDisk}
use Rattle.sqlite.specs.declared.error.Error.{Error}
use Rattle.learned_devices.specs.declared.Device.{Device}
use Rattle.learned_devices.specs.declared.fault.LearnFault.{LearnFault}
use Rattle.learned_devices.specs.declared.fault.LearnFault.TheVariants.{Full, Failed}
use Rattle.learned_devices.specs.Devices.{Devices, Operation, data_after, device_data}
use Rattle.learned_devices.specs.DeviceStoreState.{DeviceStoreState}
use Rattle.learned_devices.specs.StoreCalls.{Learns}
use Rattle.device_registry.specs.Faults.{fault_of}
use Rattle.device_registry.specs.Holding.{HasDevicesIfOpen}

-- the result of `learn_unless_full` as a result of `learn`: `Ok false` means that the registry is full
abbrev pub learn_result : Result Bool Error → Result (Unit {0}) LearnFault
learn_result (Ok true) = Ok tt
learn_result (Ok false) = Err Full
learn_result (Err e) = Err (Failed (fault_of e))

-- a device is learned if the registry is not full; the result is whether it is learned
abbrev pub LearnsUnlessFull : (old new : DeviceStoreState) → Device → Result Bool Error → Type 0
LearnsUnlessFull old new it result = Learns old new it (learn_result result)

-- the sender of the device is learned, and the operation makes this device of what is stored
abbrev pub OperationMakesDevice : State → Device → Operation → Type 0
OperationMakesDevice s it operation = HasCleanDisk s → (devices : Devices) → HasDevicesIfOpen s devices
    → IsTrue (is_some (get devices it.id)) × (data_after (get devices it.id) operation ≡ Some (device_data it))

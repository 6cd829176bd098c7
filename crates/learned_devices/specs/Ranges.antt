-- The ranges of the numbers of a device.
use Rattle.std.specs.Prelude.{ℕ, ◌<◌, ◌^◌, Option, IfSome}
use Rattle.erp1_telegrams.specs.declared.eep.Eep.{Eep}
use Rattle.learned_devices.specs.declared.Device.{Device}
use Rattle.learned_devices.specs.Devices.{Devices, device_of}

-- a profile has three bytes
abbrev pub IsProfileInRange : Eep → Type 0
IsProfileInRange eep = (eep.rorg < 256) × (eep.func < 256) × (eep.typ < 256)

-- a manufacturer ID, if it is known, has at most two bytes
abbrev pub MakerFitsTwoBytes : (maker : Option ℕ) → Type 0
MakerFitsTwoBytes maker = IfSome maker (λ maker. maker < 2 ^ 16)

-- an ID has four bytes
abbrev pub HasDeviceNumbersInRange : Device → Type 0
HasDeviceNumbersInRange known = IsProfileInRange known.eep × (known.id < 2 ^ 32) × MakerFitsTwoBytes known.maker

-- each learned device is in range
abbrev pub AreInRange : Devices → Type 0
AreInRange devices = (id : ℕ) → IfSome (device_of devices id) HasDeviceNumbersInRange

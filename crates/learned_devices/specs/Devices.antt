-- The learned devices, and how they change.
use Rattle.std.specs.Prelude.{ℕ, Bool, nat_le, List, [], map, Option, Some, None}
use Rattle.std.specs.Option.{option_map}
use Rattle.std.specs.Ordering.{nat_cmp}
use Rattle.std.specs.FinMap.{FinMap, get, insert, remove, len, entries}
use Rattle.erp1_telegrams.specs.declared.eep.Eep.{Eep}
use Rattle.learned_devices.specs.declared.Device.{Device}

-- the stored data of a sender: its profile, its maker if it had one, and its label, which may be empty
pub record DeviceData : Type 0 where
  pub eep : Eep
  pub maker : Option ℕ
  pub label : List ℕ

-- the stored data of each learned sender
abbrev pub Devices : Type 0
Devices = FinMap nat_cmp DeviceData

abbrev pub device : (id : ℕ) → DeviceData → Device
device id it = record { id = id; eep = it.eep; maker = it.maker; label = it.label }

-- the stored data of a device's sender
abbrev pub device_data : Device → DeviceData
device_data it = record { eep = it.eep; maker = it.maker; label = it.label }

-- the device of a sender, if it is learned
abbrev pub device_of : Devices → (id : ℕ) → Option Device
device_of devices id = option_map (device id) (get devices id)

-- all devices, by rising ID
abbrev pub devices_by_ascending_id : Devices → List Device
devices_by_ascending_id devices = map (λ entry. device entry.0 entry.1) (entries devices)

-- the maximum number of devices that are kept. Own choice
abbrev pub max_devices : ℕ
max_devices = 1000

-- the devices are full for this sender: the maximum number of others is learned
abbrev pub is_full_for : Devices → (id : ℕ) → Bool
is_full_for devices id = nat_le max_devices (len (remove devices id))

-- an operation on a sender: learn it with a profile and a maker, forget it, or give it a label
pub data Operation : Type 0 where
  Learn : (eep : Eep) (maker : Option ℕ) → Operation
  Forget : Operation
  Relabel : (label : List ℕ) → Operation

pub record DeviceUpdate : Type 0 where
  pub sender : ℕ
  pub operation : Operation

abbrev pub learn_update : Device → DeviceUpdate
learn_update it = record { sender = it.id; operation = Learn it.eep it.maker }

abbrev pub forget_update : (id : ℕ) → DeviceUpdate
forget_update id = record { sender = id; operation = Forget }

abbrev pub relabel_update : (id : ℕ) (label : List ℕ) → DeviceUpdate
relabel_update id label = record { sender = id; operation = Relabel label }

-- the label of a sender once it is learned: a known one keeps its own, another gets the empty one
abbrev pub kept_label : Option DeviceData → List ℕ
kept_label (Some it) = it.label
kept_label None = []

-- the data of a sender after an operation; a label changes nothing about an unknown one
abbrev pub data_after : Option DeviceData → Operation → Option DeviceData
data_after known (Learn eep maker) = Some (record { eep = eep; maker = maker; label = kept_label known })
data_after known Forget = None
data_after (Some it) (Relabel label) = Some (record { eep = it.eep; maker = it.maker; label = label })
data_after None (Relabel label) = None

abbrev pub with_entry : Devices → (id : ℕ) → Option DeviceData → Devices
with_entry devices id (Some it) = insert devices id it
with_entry devices id None = remove devices id

-- the devices with the update, which changes only its sender
abbrev pub apply_update : Devices → DeviceUpdate → Devices
apply_update devices update = with_entry devices update.sender (data_after (get devices update.sender) update.operation)

-- The guarantee of an acknowledged operation about its sender, and the operations that keep it. Own choice.
use Rattle.std.specs.Prelude.{◌≡◌, Option, Some, None}
use Rattle.learned_devices.specs.Devices.{DeviceData, Operation, Learn, Forget, Relabel}

-- the guarantee: the profile and maker that the sender was learned with, that it is not learned, or its label
abbrev pub Promises : Operation → Option DeviceData → Type 0
Promises (Learn eep maker) known = (it : DeviceData) × (known ≡ Some it) × (it.eep ≡ eep) × (it.maker ≡ maker)
Promises Forget known = known ≡ None
Promises (Relabel label) known = (it : DeviceData) × (known ≡ Some it) × (it.label ≡ label)

-- The second operation on the same sender keeps the guarantee of the first: an equal one does, a label keeps what was
-- learned or forgotten, and learning again keeps the label.
abbrev pub IsPromiseKeptBy : (operation other : Operation) → Type 0
IsPromiseKeptBy (Learn eep maker) (Learn other by) = (other ≡ eep) × (by ≡ maker)
IsPromiseKeptBy (Learn eep maker) (Relabel label) = Unit {0}
IsPromiseKeptBy Forget Forget = Unit {0}
IsPromiseKeptBy Forget (Relabel label) = Unit {0}
IsPromiseKeptBy (Relabel label) (Relabel other) = other ≡ label
IsPromiseKeptBy (Relabel label) (Learn eep maker) = Unit {0}
IsPromiseKeptBy operation other = ⊥

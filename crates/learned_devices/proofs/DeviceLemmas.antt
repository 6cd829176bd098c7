-- The stored data of one sender after an update of another, or of itself.
use Rattle.std.proofs.Common.{◌≡◌, ℕ, Option, Some, None, cond, nat_cmp}
use Rattle.std.specs.Cmp.{nat_cmp_total}
use Rattle.std.specs.Ordering.{eq_by_cmp}
use Rattle.std.specs.FinMap.{get, get-insert, get-remove}
use Rattle.learned_devices.specs.Devices.{Devices, DeviceData, with_entry}

pub get-entered : (devices : Devices) (id : ℕ) (o : Option DeviceData) (q : ℕ)
    → get (with_entry devices id o) q ≡ cond (eq_by_cmp nat_cmp q id) o (get devices q)
get-entered devices id (Some it) q = get-insert nat_cmp_total devices id it q
get-entered devices id None q = get-remove nat_cmp_total devices id q

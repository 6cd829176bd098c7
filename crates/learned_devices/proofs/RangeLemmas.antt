-- Devices in range, after one device is added.
use Rattle.std.proofs.Common.{◌≡◌, ℕ, Bool, true, false, cond, Option, nat_cmp, refl, sym, ap, subst, ◌∙◌, arith}
use Rattle.std.specs.Prelude.{IfSome}
use Rattle.std.specs.Option.{option_map}
use Rattle.std.specs.Ordering.{eq_by_cmp}
use Rattle.std.specs.FinMap.{empty, get, get-empty}
use Rattle.std.proofs.lemmas.Bool.Decides.{nat_tests}
use Rattle.learned_devices.specs.Devices.{Devices, DeviceData, device, device_of, with_entry}
use Rattle.learned_devices.specs.Ranges.{HasDeviceNumbersInRange, AreInRange}
use Rattle.learned_devices.proofs.DeviceLemmas.{get-entered}

pub empty-in : AreInRange empty
empty-in id =
    subst (λ (it : Option DeviceData). IfSome (option_map (device id) it) HasDeviceNumbersInRange)
    (sym (get-empty nat_cmp id))
    tt

pub entered-in : (devices : Devices) (sender : ℕ) (o : Option DeviceData)
    → IfSome (option_map (device sender) o) HasDeviceNumbersInRange → AreInRange devices
    → AreInRange (with_entry devices sender o)
entered-in devices sender o is old id = by_key (eq_by_cmp nat_cmp id sender) refl
  where
    by_key : (b : Bool) → eq_by_cmp nat_cmp id sender ≡ b
        → IfSome (device_of (with_entry devices sender o) id) HasDeviceNumbersInRange
    by_key true e =
        let key : id ≡ sender = grind (arith, nat_tests) in
        subst (λ (k : Option DeviceData). IfSome (option_map (device id) k) HasDeviceNumbersInRange)
        (sym (get-entered devices sender o id ∙ ap (λ b. cond b o (get devices id)) e))
        (subst (λ k. IfSome (option_map (device k) o) HasDeviceNumbersInRange) (sym key) is)
    by_key false e =
        subst (λ (k : Option DeviceData). IfSome (option_map (device id) k) HasDeviceNumbersInRange)
        (sym (get-entered devices sender o id ∙ ap (λ b. cond b o (get devices id)) e)) (old id)

-- The postconditions of the calls of the device table and of the registry, from the effects of the statements.
use Rattle.std.proofs.lemmas.Grind.{common_steps}
use Rattle.std.proofs.Common.{arith, Global, Vec, IsErrAnd}
use Rattle.keyed_table.proofs.Common.{◌≡◌, false, inl, inr, ℕ, Bool, Option, Result, Ok, Err, IsTrue, Some, is_some}
use Rattle.keyed_table.proofs.Common.{option_map, sym, ap, subst, ◌∙◌, true, MatchBool, IfOk, get, insert, Trees}
use Rattle.keyed_table.proofs.Common.{Database, State, HasCleanDisk, Error}
use Rattle.device_registry.proofs.Common.{devices_by_ascending_id, OperationMakesDevice, HasDevicesIfOpen, DeviceUpdate}
use Rattle.device_registry.proofs.Common.{registry_state, apply_update, learn_update, device_data, is_full_for, Devices}
use Rattle.device_registry.proofs.Common.{IsReadyWith, DeviceData, with_entry, data_after, StoreFault, Operation, Learn}
use Rattle.device_registry.proofs.Common.{device_of, AreReady, Updates, IsReady, Device, device, Keeps}
use Rattle.learned_devices.specs.CommitCounts.{AtMostMoreCommits}
use Rattle.std.proofs.lemmas.Result.{MatchResult-weaker}
use Rattle.learned_devices.specs.DeviceStoreState.{DeviceStoreState, LeavesPending}
use Rattle.learned_devices.specs.StoreCalls.{LooksUp, ListsAll, Learns}
use Rattle.device_registry.specs.Faults.{fault_of}
use Rattle.device_registry.specs.Holding.{AreVersion2Registries}
use Rattle.device_registry.specs.Ready.{IsReadyIfOpen, WritesNothing, CommitsOrMayBeLeft}
use Rattle.device_registry.proofs.DevicesHeld.{registry_devices-unique, trees_devices-unique, room_for_known}
use Rattle.keyed_table.proofs.Statements.{ready_on}
use Rattle.learned_devices.specs.declared.fault.LearnFault.{LearnFault}
use Rattle.learned_devices.specs.declared.fault.LearnFault.TheVariants.{Failed}

-- the invariant of `DeviceTable`, about its connection
abbrev pub IsWell : State → Type 0
IsWell s = (HasCleanDisk s → AreVersion2Registries s.may_leave) × IsReadyIfOpen s

pub ready_with_held : {s : State} {devices : Devices} → HasCleanDisk s → IsReady s → HasDevicesIfOpen s devices
    → IsReadyWith s devices
ready_with_held {s} {devices} clean ready has = grind (arith, common_steps)

-- the result at the exit of a `?`
pub err_is : {T E : Type 0} {e : E} (r : Result T E) → IsErrAnd r (λ other. other ≡ e) → r ≡ Err e
err_is r is = grind (arith, common_steps)

pub MatchBool-from_both : {A B : Type 0} (b : Bool) → A → B → MatchBool b A B
MatchBool-from_both true a b = a
MatchBool-from_both false a b = b

pub pending-from_kept : {old new : DeviceStoreState} {update : DeviceUpdate} {devices : Devices}
    → Keeps old new devices → LeavesPending old new update devices
pending-from_kept keeps = record { now = keeps.now; crash = λ left may. inl (keeps.crash left may) }

-- ---- nothing was written

module _ {old new : State} (stays : WritesNothing old new) (well : IsWell old) where
  pub ready_before : HasCleanDisk new → IsTrue new.is_open → IsReady old
  ready_before clean is_open = well.1 (stays.clean clean) (stays.goes_on clean is_open).0

  -- a property that a query showed for `IsReadyWith` also holds for `HasDevicesIfOpen`
  pub reports : {Q : Devices → Type 0}
      → (HasCleanDisk new → IsReady new × ((devices : Devices) → IsReadyWith old devices → Q devices))
      → HasCleanDisk new → (devices : Devices) → HasDevicesIfOpen old devices → Q devices
  reports shown clean devices has = grind (arith, common_steps)

  pub keeps : {a b : Option ℕ} → HasCleanDisk new → (devices : Devices) → HasDevicesIfOpen old devices
      → Keeps (registry_state old a) (registry_state new b) devices
  keeps clean devices has = record {
    now = λ _ is_open.
        let before = ready_with_held (stays.clean clean) (ready_before clean is_open) has in
        ((stays.goes_on clean is_open).1 devices before).holds;
    crash = λ left (trees, may, holds). (trees, stays.crash clean trees may, holds);
  }

  -- the devices after the call are those before it
  pub shown_before : HasCleanDisk new → {devices : Devices} → IsReadyWith new devices → IsReadyWith old devices
  shown_before clean shows =
      let before = ready_before clean shows.is_open in
      let after = (stays.goes_on clean shows.is_open).1 before.held before.shows in
      subst (IsReadyWith old) (registry_devices-unique after.holds shows.holds) before.shows

  pub keeps_well : IsWell new
  keeps_well = (
    λ clean trees may. well.0 (stays.clean clean) trees (stays.crash clean trees may),
    λ clean is_open. ready_on old new (stays.goes_on clean) is_open (ready_before clean is_open),
  )

  module _ {E : Type 0} {a b : Option ℕ} (counted : HasCleanDisk new → b ≡ a) where
    pub looks_up : {id : ℕ} (r : Result (Option Device) E) → (HasCleanDisk new → (devices : Devices)
        → HasDevicesIfOpen old devices → IfOk r (λ found. found ≡ device_of devices id))
        → LooksUp (registry_state old a) (registry_state new b) id r
    looks_up r reported = record {
      clean = stays.clean;
      reopenable = keeps_well.0;
      commits = counted;
      devices = λ clean devices has. MatchResult-weaker r (reported clean devices has)
          (λ _ is. (is, keeps clean devices has)) (λ _ _. keeps clean devices has);
    }

    pub lists_all : (r : Result (Vec Device Global) E) → (HasCleanDisk new → (devices : Devices)
        → HasDevicesIfOpen old devices → IfOk r (λ all. all.items ≡ devices_by_ascending_id devices))
        → ListsAll (registry_state old a) (registry_state new b) r
    lists_all r reported = record {
      clean = stays.clean;
      reopenable = keeps_well.0;
      commits = counted;
      devices = λ clean devices has. MatchResult-weaker r (reported clean devices has)
          (λ _ is. (is, keeps clean devices has)) (λ _ _. keeps clean devices has);
    }

-- ---- a write

abbrev without_value : {T E : Type 0} → Result T E → Result (Unit {0}) E
without_value (Ok v) = Ok tt
without_value (Err e) = Err e

module _ {old new : State} (update : DeviceUpdate) (well : IsWell old) (ready : HasCleanDisk old → IsReady old)
    {T E : Type 0} where
  registries : {r : Result T E} → CommitsOrMayBeLeft old new update r → HasCleanDisk new
      → AreVersion2Registries new.may_leave
  registries turns clean trees may = elim (turns.crash clean trees may) [
    | inl before ↦ well.0 (turns.clean clean) trees before
    | inr left ↦
        let before = ready (turns.clean clean) in
        record { devices = apply_update before.held update; holds = left.1 before.held before.shows }
  ]

  pub made_ready : {done : T} → CommitsOrMayBeLeft {E = E} old new update (Ok done) → HasCleanDisk new
      → AreReady old new
  made_ready turns clean =
      let before = ready (turns.clean clean) in
      (before, record { held = apply_update before.held update; shows = turns.made clean before.held before.shows })

  pub turned_well : (r : Result T E) → CommitsOrMayBeLeft old new update r → IsWell new
  turned_well (Ok done) turns = (registries turns, λ clean _. (made_ready turns clean).1)
  turned_well (Err e) turns =
      (registries turns, λ clean is_open. ready_on old new (turns.failed clean) is_open (ready (turns.clean clean)))

  -- while the connection is open, a crash leaves what is committed
  pub updates : {a b : Option ℕ} → AtMostMoreCommits 1 a b → (r : Result T E) → CommitsOrMayBeLeft old new update r
      → ((trees : Trees) → IsTrue new.is_open → new.may_leave trees → trees ≡ new.committed.trees)
      → Updates (registry_state old a) (registry_state new b) update (without_value r)
  updates counted (Ok done) turns settled = record {
    clean = turns.clean;
    reopenable = registries turns;
    commits = λ _. counted;
    devices = λ clean devices has.
        let early = turns.clean clean in
        let after = turns.made clean devices (ready_with_held early (ready early) has) in record {
          now = λ _ _. after.holds;
          crash = λ left (trees, may, holds). trees_devices-unique holds (record {
            db = new.now;
            same = ap (λ (db : Database). db.trees) after.settled ∙ sym (settled trees after.is_open may);
            sound = after.sound;
            holds = after.holds;
          });
        };
  }
  updates counted (Err e) turns settled = record {
    clean = turns.clean;
    reopenable = registries turns;
    commits = λ _. counted;
    devices = λ clean devices has.
        let early = turns.clean clean in
        let before = ready_with_held early (ready early) has in record {
          now = λ _ is_open. ((turns.failed clean is_open).1 devices before).holds;
          crash = λ left (trees, may, holds). elim (turns.crash clean trees may) [
            | inl early ↦ inl (trees, early, holds)
            | inr made ↦ inr (trees_devices-unique holds (made.1 devices before))
          ];
        };
  }

-- ---- a device is learned

abbrev learned : {A E : Type 0} → (E → StoreFault) → Result A E → Result (Unit {0}) LearnFault
learned fault (Ok v) = Ok tt
learned fault (Err e) = Err (Failed (fault e))

module _ {A E : Type 0} {old new : DeviceStoreState} (device : Device) where
  -- an update learns the device, if the registry was not full for it
  pub learns : (fault : E → StoreFault) (r : Result A E) → Updates old new (learn_update device) r
      → (new.honest → (devices : Devices) → old.holds devices → is_full_for devices device.id ≡ false)
      → Learns old new device (learned fault r)
  learns fault r updates room = grind (arith, common_steps, updates)

  -- the query before the update failed
  pub unlearned : {e : E} {fault : StoreFault} → LooksUp old new device.id (Err e)
      → Learns {A = A} old new device (Err (Failed fault))
  unlearned looks = grind (arith, common_steps)

-- ---- a call after a query

module _ {first mid : DeviceStoreState} {devices : Devices} (kept : Keeps first mid devices) where
  keeps_then : {last : DeviceStoreState} → Keeps mid last devices → Keeps first last devices
  keeps_then keeps = record { now = keeps.now; crash = λ left may. kept.crash left (keeps.crash left may) }

module _ {E : Type 0} {old mid new : DeviceStoreState} {id : ℕ} {found : Result (Option Device) E}
    (looks : LooksUp old mid id found) where
  pub updates_then : {A F : Type 0} {update : DeviceUpdate} (r : Result A F) → Updates mid new update r
      → Updates old new update r
  updates_then r updates = grind (arith, common_steps)

  pub learns_then : {A : Type 0} {device : Device} (r : Result A LearnFault) → Learns mid new device r
      → Learns old new device r
  learns_then {device = device} r learns = grind (arith, common_steps)

-- ---- an upsert of this device

module _ {T : Type 0} {mid new : State} {r : Result T Error} (device : Device) (turns : (update : DeviceUpdate)
    → (HasCleanDisk mid → (devices : Devices) → IsReadyWith mid devices
    → apply_update devices update ≡ insert devices device.id (device_data device))
    → CommitsOrMayBeLeft mid new update r) where
  -- the upsert implements each operation whose result is this device
  pub makes_update : (operation : Operation) → OperationMakesDevice mid device operation
      → CommitsOrMayBeLeft mid new (record { sender = device.id; operation = operation }) r
  makes_update operation makes = turns (record { sender = device.id; operation = operation })
      (λ clean devices shows. ap (with_entry devices device.id) (makes clean devices (λ _ _. shows.holds)).1)

  -- after a count of the other senders, which wrote nothing, the upsert learns the device
  module _ {old : State} {is_full : Bool} (stays : WritesNothing old mid) (well : IsWell old)
      (made : HasCleanDisk old → (devices : Devices) → HasDevicesIfOpen old devices
      → data_after (get devices device.id) (Learn device.eep device.maker) ≡ Some (device_data device))
      (full : HasCleanDisk mid → IsReady mid
      × ((devices : Devices) → IsReadyWith old devices → is_full ≡ is_full_for devices device.id)) where
    pub upserted : CommitsOrMayBeLeft mid new (learn_update device) r
    upserted = turns (learn_update device) (λ clean devices shows. ap (with_entry devices device.id)
        (made (stays.clean clean) devices (λ _ _. (shown_before stays well clean shows).holds)))

    pub upserted_well : IsWell new
    upserted_well = turned_well (learn_update device) (keeps_well stays well) (λ clean. (full clean).0) r upserted

    pub upserted_learns : {a b m : Option ℕ} → m ≡ a → AtMostMoreCommits 1 m b → is_full ≡ false
        → ((trees : Trees) → IsTrue new.is_open → new.may_leave trees → trees ≡ new.committed.trees)
        → Learns (registry_state old a) (registry_state new b) device (learned fault_of (without_value r))
    upserted_learns same counted room settled =
        let looks = looks_up stays well {E = Unit {0}} (λ _. same) {id = device.id} (Err tt) (λ _ _ _. tt) in
        learns device fault_of (without_value r) (updates_then looks (without_value r)
        (updates (learn_update device) (keeps_well stays well) (λ clean. (full clean).0) counted r upserted settled))
        (λ clean devices has. sym (reports stays well full (upserted.clean clean) devices has) ∙ room)

-- ---- a sender that was looked up

device_data_back : (id : ℕ) (stored : Option DeviceData)
    → option_map device_data (option_map (device id) stored) ≡ stored
device_data_back id stored = grind (arith, common_steps)

-- the answer of a look-up says whether the sender is known
pub is_known : {E : Type 0} {old new : DeviceStoreState} {id : ℕ} {known answer : Option Device}
    → LooksUp {E = E} old new id (Ok known) → known ≡ answer → new.honest → (devices : Devices) → old.holds devices
    → is_some answer ≡ is_some (get devices id)
is_known {id = id} looks is clean devices has = grind (arith, common_steps)

module _ {old mid : State} {a b : Option ℕ} {E : Type 0} {id : ℕ} {known : Option Device}
    (looks : LooksUp {E = E} (registry_state old a) (registry_state mid b) id (Ok known))
    (ready : HasCleanDisk mid → AreReady old mid) where
  -- the answer of the look-up is true of the devices that the registry holds now
  pub stored_now : {answer : Option Device} → known ≡ answer → HasCleanDisk mid → (devices : Devices)
      → HasDevicesIfOpen mid devices → get devices id ≡ option_map device_data answer
  stored_now is clean devices has =
      let (before, after) = ready clean in
      let (found, kept) = looks.devices clean before.held (λ _ _. before.shows.holds) in
      let same = registry_devices-unique (kept.now clean after.shows.is_open) (has clean after.shows.is_open) in
      sym (ap (option_map device_data) (sym is ∙ found) ∙ device_data_back id (get before.held id)
      ∙ ap (λ (devices : Devices). get devices id) same)

  pub makes_known : {was device : Device} → known ≡ Some was → (operation : Operation)
      → data_after (Some (device_data was)) operation ≡ Some (device_data device) → device.id ≡ id
      → OperationMakesDevice mid device operation
  makes_known some operation makes at clean devices has =
      let is = ap (get devices) at ∙ stored_now some clean devices has in
      (ap is_some is, ap (λ stored. data_after stored operation) is ∙ makes)

  -- the registry is not full for a known sender
  pub room_after : (device : Device) (operation : Operation) → OperationMakesDevice mid device operation
      → HasCleanDisk mid → (devices : Devices) → HasDevicesIfOpen old devices → is_full_for devices device.id ≡ false
  room_after device operation makes clean devices has = room_for_known device operation makes clean devices
      (ready_with_held clean (ready clean).1 (looks.devices clean devices has).1.now)

-- Cache entries stay correct.
use Rattle.keyed_table.proofs.Common.{option_map, ◌≡◌, ◌≢◌, ◌⊎◌, inl, inr, ℕ, List, [], Option, Contains, arith, ap}
use Rattle.keyed_table.proofs.Common.{◌∙◌, Ok, get, nat_tests, State, HasCleanDisk}
use Rattle.device_registry.proofs.Common.{LruCache, lru_cache, Device, Devices, DeviceUpdate, apply_update, data_after}
use Rattle.device_registry.proofs.Common.{with_entry, device, device_of, Keeps, Updates, HasDevicesIfOpen}
use Rattle.device_registry.proofs.Common.{registry_state, IsReady, AreReady}
use Rattle.lru.proofs.Splits.{Contains-nil}
use Rattle.learned_devices.proofs.ForCallers.{get-entered}
use Rattle.device_registry.specs.private.Cached.{EntryAgrees, CacheAgreesIfClean}
use Rattle.device_registry.proofs.DevicesHeld.{registry_devices-unique}

abbrev Entry : Type 0
Entry = ℕ × Option Device

pub CacheAgrees-empty : {s : State} (entries : List Entry) → entries ≡ [] → CacheAgreesIfClean s entries
CacheAgrees-empty entries none entry has clean = absurd (Contains-nil entry (rw none at has))

pub CacheAgrees-cleared : {s : State} (cache : LruCache ℕ (Option Device)) {cap : ℕ} → cache ≡ lru_cache [] cap
    → CacheAgreesIfClean s cache.entries
CacheAgrees-cleared cache is = CacheAgrees-empty cache.entries (ap (λ (c : LruCache ℕ (Option Device)). c.entries) is)

-- ---- after a call

agrees : {s : State} {entry : Entry} → HasCleanDisk s → IsReady s → (devices : Devices) → HasDevicesIfOpen s devices
    → entry.1 ≡ device_of devices entry.0 → EntryAgrees s entry
agrees {entry = entry} clean ready devices has is =
    let is_open = ready.shows.is_open in
    record {
      ready = ready;
      is = λ other had. is ∙ ap (λ (m : Devices). device_of m entry.0)
          (registry_devices-unique (has clean is_open) (had clean is_open));
    }

module _ {old new : State} (ready : HasCleanDisk new → AreReady old new) where
  -- an entry with the result of a look-up is correct
  pub EntryAgrees-found : {a b : Option ℕ} → HasCleanDisk new → {entry : Entry}
      → ((devices : Devices) → HasDevicesIfOpen old devices
      → (entry.1 ≡ device_of devices entry.0) × Keeps (registry_state old a) (registry_state new b) devices)
      → EntryAgrees new entry
  EntryAgrees-found clean found =
      let (before, after) = ready clean in
      let (is, kept) = found before.held (λ _ _. before.shows.holds) in
      agrees clean after before.held kept.now is

  -- a correct entry stays correct if the call keeps the devices
  pub EntryAgrees-kept : {a b : Option ℕ} → HasCleanDisk new → {entry : Entry} {Shown : Devices → Type 0}
      → ((devices : Devices) → HasDevicesIfOpen old devices
      → Shown devices × Keeps (registry_state old a) (registry_state new b) devices)
      → EntryAgrees old entry → EntryAgrees new entry
  EntryAgrees-kept clean keeps entry =
      EntryAgrees-found clean (λ devices has. (entry.is devices has, (keeps devices has).1))

  -- the entries stay correct when an update is committed and its result is cached
  pub CacheAgrees-updated : {A E : Type 0} {a b : Option ℕ} {done : A} {update : DeviceUpdate} {known : Option Device}
      (before between later : List Entry)
      → Updates {E = E} (registry_state old a) (registry_state new b) update (Ok done)
      → (HasCleanDisk old → (devices : Devices) → HasDevicesIfOpen old devices
      → known ≡ option_map (device update.sender) (data_after (get devices update.sender) update.operation))
      → CacheAgreesIfClean old before
      → ((entry : Entry) → Contains between entry → Contains before entry × (entry.0 ≢ update.sender))
      → ((entry : Entry) → Contains later entry → Contains between entry ⊎ (entry ≡ (update.sender, known)))
      → ((registry_state new b).honest → (registry_state new b).reopenable) × CacheAgreesIfClean new later
  CacheAgrees-updated {update = update} earlier between later updates is recalls others added = (
    updates.reopenable,
    λ entry has clean.
        let (before, after) = ready clean in
        let held = before.held in
        let had : HasDevicesIfOpen old held = λ _ _. before.shows.holds in
        let stored = data_after (get held update.sender) update.operation in
        agrees clean after (apply_update held update) (updates.devices clean held had).now (elim (added entry has) [
          | inl was ↦
              let (cached, other) = others entry was in
              let same : get held entry.0 ≡ get (with_entry held update.sender stored) entry.0 =
              grind (arith, nat_tests, get-entered) in
              (recalls entry cached (updates.clean clean)).is held had ∙ ap (option_map (device entry.0)) same
          | inr cached ↦
              let same : stored ≡ get (with_entry held update.sender stored) update.sender =
              grind (arith, nat_tests, get-entered) in
              rw cached (is (updates.clean clean) held had ∙ ap (option_map (device update.sender)) same)
        ]),
  )

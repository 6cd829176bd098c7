-- The calls of a device store, from what it kept before to what it keeps afterwards. Own choice.
use Rattle.std.specs.Prelude.{◌≡◌, ℕ, Bool, false, is_some, IsTrue, MatchBool, MatchResult}
use Rattle.std.specs.Prelude.{List, Option, Result, Ok, Err, Vec}
use Rattle.std.specs.declared.alloc.Global.{Global}
use Rattle.std.specs.FinMap.{get}
use Rattle.learned_devices.specs.declared.Device.{Device}
use Rattle.learned_devices.specs.declared.fault.LearnFault.{LearnFault}
use Rattle.learned_devices.specs.declared.fault.LearnFault.TheVariants.{Full, Failed}
use Rattle.learned_devices.specs.Devices.{Devices, DeviceUpdate, device_of, devices_by_ascending_id, is_full_for}
use Rattle.learned_devices.specs.Devices.{learn_update, forget_update, relabel_update}
use Rattle.learned_devices.specs.DeviceStoreState.{DeviceStoreState, Keeps, Commits, LeavesPending}
use Rattle.learned_devices.specs.CommitCounts.{AtMostMoreCommits}

-- a sender is looked up
pub record LooksUp {E : Type 0} (old new : DeviceStoreState) (id : ℕ) (result : Result (Option Device) E) : Type 0 where
  pub clean : new.honest → old.honest
  pub reopenable : new.honest → new.reopenable
  pub commits : new.honest → new.commits ≡ old.commits
  pub devices : new.honest → (devices : Devices) → old.holds devices
      → MatchResult result (λ found. (found ≡ device_of devices id) × Keeps old new devices)
      (λ _. Keeps old new devices)

-- an update is committed, or the call failed, at its commit or before
pub record Updates {A E : Type 0} (old new : DeviceStoreState) (update : DeviceUpdate)
    (result : Result A E) : Type 0 where
  pub clean : new.honest → old.honest
  pub reopenable : new.honest → new.reopenable
  pub commits : new.honest → AtMostMoreCommits 1 old.commits new.commits
  pub devices : new.honest → (devices : Devices) → old.holds devices
      → MatchResult result (λ _. Commits new update devices) (λ _. LeavesPending old new update devices)

-- A device is not learned. If 1,000 others are, nothing is written; otherwise the call failed, at its commit or before.
abbrev pub FailsToLearn : (old new : DeviceStoreState) → Device → Devices → LearnFault → Type 0
FailsToLearn old new it devices Full = IsTrue (is_full_for devices it.id) × Keeps old new devices
FailsToLearn old new it devices (Failed fault) =
    MatchBool (is_full_for devices it.id) (Keeps old new devices) (LeavesPending old new (learn_update it) devices)

-- a device that is not learned because the registry is full makes no commit
abbrev pub most_commits_of_learn : {A : Type 0} → Result A LearnFault → ℕ
most_commits_of_learn (Err Full) = 0
most_commits_of_learn result = 1

-- a device is learned and replaces the data of its sender, except for the label
pub record Learns {A : Type 0} (old new : DeviceStoreState) (it : Device) (result : Result A LearnFault) : Type 0 where
  pub clean : new.honest → old.honest
  pub reopenable : new.honest → new.reopenable
  pub commits : new.honest → AtMostMoreCommits (most_commits_of_learn result) old.commits new.commits
  pub devices : new.honest → (devices : Devices) → old.holds devices
      → MatchResult result (λ _. (is_full_for devices it.id ≡ false) × Commits new (learn_update it) devices)
      (FailsToLearn old new it devices)

-- a sender is forgotten, even if it was not learned
abbrev pub Forgets : {A E : Type 0} → (old new : DeviceStoreState) (id : ℕ) → Result A E → Type 0
Forgets old new id result = Updates old new (forget_update id) result

-- a label for an unknown sender makes no commit
abbrev pub most_commits_of_relabel : {E : Type 0} → Result Bool E → ℕ
most_commits_of_relabel (Ok false) = 0
most_commits_of_relabel result = 1

-- A sender gets a label, if it is learned: the result is whether it is. If it is not, nothing is written.
pub record Relabels {E : Type 0} (old new : DeviceStoreState) (id : ℕ) (label : List ℕ)
    (result : Result Bool E) : Type 0
  where
    pub clean : new.honest → old.honest
    pub reopenable : new.honest → new.reopenable
    pub commits : new.honest → AtMostMoreCommits (most_commits_of_relabel result) old.commits new.commits
    pub devices : new.honest → (devices : Devices) → old.holds devices
        → MatchResult result (λ known. (known ≡ is_some (get devices id))
        × MatchBool known (Commits new (relabel_update id label) devices) (Keeps old new devices))
        (λ _. MatchBool (is_some (get devices id)) (LeavesPending old new (relabel_update id label) devices)
        (Keeps old new devices))

-- all devices are listed
pub record ListsAll {E : Type 0} (old new : DeviceStoreState) (result : Result (Vec Device Global) E) : Type 0 where
  pub clean : new.honest → old.honest
  pub reopenable : new.honest → new.reopenable
  pub commits : new.honest → new.commits ≡ old.commits
  pub devices : new.honest → (devices : Devices) → old.holds devices
      → MatchResult result (λ all. (all.items ≡ devices_by_ascending_id devices) × Keeps old new devices)
      (λ _. Keeps old new devices)

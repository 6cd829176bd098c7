-- How a gateway begins over a registry that was opened.
use Rattle.std.proofs.Common.{◌≡◌, ◌∙◌, inl, inr, ℕ, IsTrue, Option, refl, sym, subst}
use Rattle.sqlite.specs.State.{State, HasCleanDisk}
use Rattle.sqlite.specs.Tree.{Trees}
use Rattle.esp3_frames.proofs.ForCallers.{empty_may_become}
use Rattle.learned_devices.specs.Devices.{Devices}
use Rattle.device_registry.specs.Holding.{OpenFinds, registry_state_of}
use Rattle.device_registry.specs.Opening.{IsForeignDatabase, IsOpened}
use Rattle.device_registry.specs.declared.fault.OpenFault.TheVariants.{NotARegistry}
use Rattle.device_registry.specs.declared.table.Version.TheVariants.{Second}
use Rattle.device_registry.proofs.ForCallers.{found_devices_are_unique}
use Rattle.gateway_core.specs.Calls.{GatewayValue, new_gateway_value}
use Rattle.gateway_loop.specs.Processing.{HasNoReadyPacket}
use Rattle.gateway_loop.specs.Headline.{IsNew}
use Rattle.gateway_main.specs.declared.fault.Fault.{Fault}
use Rattle.gateway_main.specs.declared.fault.Fault.TheVariants.{Database, CannotOpenFile, Run}
use Rattle.gateway_main.specs.Started.{FailsToStart, KeepsCommittedDevices, Starts}

pub new_gateway_is_idle : {S : Type 0} (base : ℕ) (registry : S) (new : GatewayValue S)
    → new ≡ new_gateway_value base registry → HasNoReadyPacket new
new_gateway_is_idle base registry new is = rw is (record { ready = refl; rest = empty_may_become })

-- a new gateway over a registry that was opened
module _ {C : Type 0} (state : C → State) (commits : C → Option ℕ) (database registry : C) (base : ℕ)
    (new : GatewayValue C) (is : new ≡ new_gateway_value base registry)
    (opened : HasCleanDisk (state registry) → IsOpened (state database) (state registry)) where
  pub starts : HasCleanDisk (state new.handler.registry) → Starts state commits database base new.handler
  starts =
      rw is (λ clean.
      let (found, opens) = (opened clean).opens in
      record {
        found = found;
        finds = opens.found;
        base_is = refl;
        begins = record { at = (refl, refl, opens.now, refl); crash = opens.crash };
        registries = (opened clean).registries;
      })

  pub new_gateway : HasCleanDisk (state new.handler.registry)
      → (found : Devices) × OpenFinds (state database).committed.trees found
      × IsNew (registry_state_of state commits) base found new × IsTrue (state new.handler.registry).is_open
  new_gateway =
      rw is (λ clean.
      let opening = opened clean in
      let (found, opens) = opening.opens in (
        found,
        opens.found,
        record {
          value = refl;
          holds_found = opens.now;
          reopenable = opening.registries;
          crash_leaves_found = opens.crash;
        },
        opening.ready.shows.is_open,
      ))

-- ---- a failed start

-- if the disk has returned what was written until a start failed, it had before
pub was_clean_before_start : (old new : State) (fault : Fault) → FailsToStart old new fault → HasCleanDisk new
    → HasCleanDisk old
was_clean_before_start old new (Database why) (inl failed) clean = failed.clean clean
was_clean_before_start old new (Database why) (inr opened) clean = (opened.1 clean).0
was_clean_before_start old new CannotOpenFile failed clean = absurd failed
was_clean_before_start old new (Run stopped) failed clean = absurd failed

-- while the connection is open, a crash leaves the last commit
pub failed_start_keeps_devices : (old new : State) (fault : Fault)
    → ((trees : Trees) → IsTrue old.is_open → old.may_leave trees → trees ≡ old.committed.trees)
    → FailsToStart old new fault → KeepsCommittedDevices old new
failed_start_keeps_devices old new (Database why) settled (inl failed) clean is_open devices has trees may_leave =
    elim (failed.crash clean trees may_leave) [
      | inl before ↦ subst (λ trees. OpenFinds trees devices) (sym (settled trees is_open before)) has
      | inr kept ↦
          subst (OpenFinds trees) (found_devices_are_unique _ kept.1.devices devices kept.1.finds has)
          (inl (Second, kept.1.holds))
    ]
failed_start_keeps_devices old new (Database why) settled (inr opened) clean is_open devices has trees may_leave =
    let opening = (opened.1 clean).1 in
    let (found, opens) = opening.opens in
    let registry = opening.registries trees may_leave in
    subst (OpenFinds trees) (opens.crash registry.devices (trees, may_leave, registry.holds)
    ∙ found_devices_are_unique _ found devices opens.found has) (inl (Second, registry.holds))
failed_start_keeps_devices old new CannotOpenFile settled failed clean is_open devices has trees may_leave = absurd
    failed
failed_start_keeps_devices old new (Run stopped) settled failed clean is_open devices has trees may_leave = absurd
    failed

-- a start rejects only what no open finds devices in
pub rejected_is_foreign : (old new : State) (fault : Fault) → FailsToStart old new fault → fault ≡ Database NotARegistry
    → HasCleanDisk new → IsForeignDatabase old.committed.trees
rejected_is_foreign old new (Database why) (inl failed) is clean =
    (failed.not_a_registry clean (let same : why ≡ NotARegistry = cc in same)).0
rejected_is_foreign old new (Database why) (inr opened) is clean = absurd (let e = opened.0 in cc)
rejected_is_foreign old new CannotOpenFile failed is clean = absurd failed
rejected_is_foreign old new (Run stopped) failed is clean = absurd failed

-- How a gateway's session begins, why a start fails, and what it then leaves.
use Rattle.std.specs.Prelude.{◌≡◌, ◌⊎◌, ℕ, IsTrue, Option}
use Rattle.sqlite.specs.State.{State, HasCleanDisk}
use Rattle.sqlite.specs.Tree.{Trees}
use Rattle.learned_devices.specs.Faults.{out_of_memory}
use Rattle.learned_devices.specs.Devices.{Devices}
use Rattle.device_registry.specs.Holding.{AreVersion2Registries, OpenFinds, registry_state_of}
use Rattle.device_registry.specs.Opening.{FailsToOpen, IsOpened}
use Rattle.device_registry.specs.declared.fault.OpenFault.TheVariants.{Failed}
use Rattle.gateway_core.specs.Handling.{HandlerValue}
use Rattle.gateway_core.specs.SessionCalls.{BeginsSession}
use Rattle.gateway_main.specs.declared.fault.Fault.{Fault}
use Rattle.gateway_main.specs.declared.fault.Fault.TheVariants.{Database, CannotOpenFile, Run}

-- The gateway knows the devices that were committed last. A crash leaves these, in a registry.
pub record Starts {C : Type 0} (state : C → State) (commits : C → Option ℕ) (database : C) (base : ℕ)
    (now : HandlerValue C) : Type 0 where
  pub found : Devices
  pub finds : OpenFinds (state database).committed.trees found
  pub base_is : now.base ≡ base
  pub begins : BeginsSession (registry_state_of state commits) now found
  pub registries : AreVersion2Registries (state now.registry).may_leave

-- A start failed. The database is not a registry, or opening it failed, as `FailsToOpen` says; or it was opened, and
-- there is no memory for the gateway.
abbrev pub FailsToStart : (old new : State) → Fault → Type 0
FailsToStart old new (Database why) = FailsToOpen old new why
    ⊎ ((why ≡ Failed out_of_memory) × (HasCleanDisk new → HasCleanDisk old × IsOpened old new))
FailsToStart old new CannotOpenFile = ⊥
FailsToStart old new (Run stopped) = ⊥

-- In whatever a crash leaves after a failed start, the next open finds the devices that were committed before it.
abbrev pub KeepsCommittedDevices : (old new : State) → Type 0
KeepsCommittedDevices old new = HasCleanDisk new → IsTrue old.is_open → (devices : Devices)
    → OpenFinds old.committed.trees devices → (trees : Trees) → new.may_leave trees → OpenFinds trees devices

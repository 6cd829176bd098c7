-- From a crash to the next start. A start is on two files, the log and the database.
use Rattle.std.specs.Prelude.{◌≢◌, ℕ, List, Option, Some, None, Result, Ok, Err}
use Rattle.sqlite.specs.Files.{file_state}
use Rattle.sqlite.specs.Held.{Held}
use Rattle.sqlite.specs.Recovery.{Image}
use Rattle.sqlite.specs.State.{State as ConnectionState, HasCleanDisk}
use Rattle.sqlite_disk.specs.declared.Disk.{Ghosts}
use Rattle.sqlite_store.specs.FileStore.{state as stored}
use Rattle.sqlite_store.specs.declared.store.FileStore.{FileStore}
use Rattle.sqlite.specs.Tree.{Trees}
use Rattle.learned_devices.specs.Devices.{Devices}
use Rattle.device_registry.specs.Holding.{MayRecover, OpenFinds, registry_state_of, uncounted}
use Rattle.device_registry.specs.declared.fault.OpenFault.TheVariants.{NotARegistry}
use Rattle.gateway_core.specs.Calls.{GatewayValue}
use Rattle.gateway_core.specs.Prefixes.{AfterPrefix}
use Rattle.gateway_core.specs.Run.{InputResult}
use Rattle.gateway_core.specs.Step.{Input, State}
use Rattle.gateway_loop.specs.Headline.{IsNew}
use Rattle.gateway_main.specs.declared.fault.Fault.{Fault}
use Rattle.gateway_main.specs.declared.fault.Fault.TheVariants.{Database}

-- The result of a start on files that hold these devices. A gateway is new over exactly these devices. A fault is not
-- `NotARegistry`; if a connection comes with it, the next open finds these devices in whatever a crash then leaves. What
-- is said of a gateway or a connection has the premise that its disk is clean. Nothing here says that a failed start
-- returns its connection.
abbrev pub StartsWith : {C : Type 0} → (C → ConnectionState) → (base : ℕ) → Devices
    → Result (GatewayValue C) (Fault × Option C) → Type 0
StartsWith state base devices (Ok gateway) =
    HasCleanDisk (state gateway.handler.registry) → IsNew (registry_state_of state uncounted) base devices gateway
StartsWith state base devices (Err (fault, Some conn)) =
    HasCleanDisk (state conn) → (fault ≢ Database NotARegistry)
    × ((trees : Trees) → (state conn).may_leave trees → OpenFinds trees devices)
StartsWith state base devices (Err (fault, None)) = fault ≢ Database NotARegistry

-- If any crash of the gateway `crashed` leaves the devices after a prefix of its inputs that contains every acknowledged
-- one, as `AsSpecified` says after `replay` and `live`, and a crash left these contents in its two files, then a start on
-- the files has this result over the devices of such a prefix.
abbrev pub RestartsAfterPrefix : {D C : Type 0} {g : Ghosts D} → (crashed : Held (FileStore D g))
    → (left_in_files : Image) → (C → ConnectionState) → (base : ℕ) → Result (GatewayValue C) (Fault × Option C)
    → Type 0
RestartsAfterPrefix crashed left_in_files state base result =
    (start : State) (inputs : List Input) (results : List InputResult)
    → ((left : Devices) → MayRecover (file_state crashed) left → AfterPrefix start inputs results left)
    → (stored crashed.store).may_leave left_in_files
    → ∥ ((left : Devices) × AfterPrefix start inputs results left × StartsWith state base left result) ∥₁

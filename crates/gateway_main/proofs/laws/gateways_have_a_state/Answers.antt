use Rattle.std.proofs.Common.{ℕ, Option, refl}
use Rattle.sqlite.specs.State.{State}
use Rattle.device_registry.specs.Holding.{HasSomeDevicesIfOpen, registry_state_of}
use Rattle.gateway_core.specs.Handling.{HandlerValue, HasStateWhileHonest}
use Rattle.gateway_main.proofs.laws.gateways_have_a_state.Goals as goal

-- the base ID, the mode and the counters are known by themselves, and the devices by the registry
knows_state : {C : Type 0} (state : C → State) (commits : C → Option ℕ) (handler : HandlerValue C)
    → HasSomeDevicesIfOpen (state handler.registry)
    → HasStateWhileHonest (registry_state_of state commits) handler
knows_state state commits handler holds clean =
    let (devices, held) = holds clean in (
      record { base = handler.base; mode = handler.mode; counts = handler.counts; devices = devices },
      (refl, refl, held, refl),
    )

pub returns : goal.returns
returns g c =
    let handler = c.args.gateway.now.handler in
    let holds : HasSomeDevicesIfOpen (g.C.SqlConnection.state handler.registry) =
    rw c.store.ensures at c.devices_are_held.ensures in
    knows_state g.C.SqlConnection.state g.C.SqlConnection.commits handler holds

-- From an open to a crash: after `replay` or `live`, a crash leaves what a session of the gateway may leave.
use Rattle.std.specs.Prelude.{ℕ, List, [], ◌∷◌, ◌++◌, Option, None}
use Rattle.sqlite.specs.State.{State, HasCleanDisk}
use Rattle.learned_devices.specs.Devices.{Devices}
use Rattle.device_registry.specs.Holding.{OpenFinds, IsReturnedByClose, Opens, registry_state_of}
use Rattle.gateway_core.specs.SessionCalls.{BeginsSession, ClosedSessionLeaves, SessionMayLeave}
use Rattle.gateway_core.specs.Calls.{GatewayValue}
use Rattle.gateway_core.specs.Handling.{HandlerValue, Handles}
use Rattle.gateway_core.specs.Events.{InputEvent, inputs_of}
use Rattle.gateway_core.specs.Step.{Input, Answer}
use Rattle.gateway_loop.specs.Processing.{Processes, Breaks}
use Rattle.gateway_main.specs.Started.{Starts}

-- in whatever a crash leaves, the next open finds devices; a session that found these and handled these inputs may
-- leave them
abbrev pub CrashLeavesSession : State → (base : ℕ) → Devices → List Input → List Answer → Type 0
CrashLeavesSession now base found items answers = (trees : _) → now.may_leave trees
    → (left : Devices) × OpenFinds trees left × SessionMayLeave base found items answers None left

-- `puts` and `breaks` say which answers were written.
module _ {C : Type 0} (state : C → State) (commits : C → Option ℕ) where
  -- The session found the devices that were committed last, and handled the events' inputs with the answers that were
  -- written.
  abbrev pub RunsAreSessions : (puts : List Answer → Type 0) → Type 0
  RunsAreSessions puts =
      (database : C) (base : ℕ) (old new : GatewayValue C) (events : List InputEvent)
      → (began : Starts state commits database base old.handler)
      → (done : Processes (registry_state_of state commits) old new events puts)
      → HasCleanDisk (state new.handler.registry)
      → CrashLeavesSession (state new.handler.registry) base began.found (inputs_of old.rest events)
      done.answered.answers

  -- The same if a write failed. The last answer may be missing, but its input was handled.
  abbrev pub BrokenRunsAreSessions : (breaks : List Answer → Answer → Type 0) → Type 0
  BrokenRunsAreSessions breaks =
      (database : C) (base : ℕ) (old new : GatewayValue C) (events : List InputEvent) (event : InputEvent)
      → (began : Starts state commits database base old.handler)
      → (broken : Breaks (registry_state_of state commits) old new events event breaks)
      → HasCleanDisk (state new.handler.registry)
      → CrashLeavesSession (state new.handler.registry) base began.found broken.inputs
      (broken.answered.answers ++ broken.answered.last ∷ [])

  -- The session ends by `close`, and the next open finds what it leaves, which is what was known at its end.
  abbrev pub ClosedRunsAreSessions : (puts : List Answer → Type 0) → Type 0
  ClosedRunsAreSessions puts =
      (database opened : C) (base : ℕ) (old new : GatewayValue C) (events : List InputEvent) (next : Devices)
      → (began : Starts state commits database base old.handler)
      → (done : Processes (registry_state_of state commits) old new events puts)
      → HasCleanDisk (state new.handler.registry) → IsReturnedByClose (state new.handler.registry)
      → Opens (state new.handler.registry) (state opened) next
      → ClosedSessionLeaves base began.found (inputs_of old.rest events) done.answered.answers next

  -- the same if a write failed
  abbrev pub BrokenClosedRunsAreSessions : (breaks : List Answer → Answer → Type 0) → Type 0
  BrokenClosedRunsAreSessions breaks =
      (database opened : C) (base : ℕ) (old new : GatewayValue C) (events : List InputEvent) (event : InputEvent)
      (next : Devices)
      → (began : Starts state commits database base old.handler)
      → (broken : Breaks (registry_state_of state commits) old new events event breaks)
      → HasCleanDisk (state new.handler.registry) → IsReturnedByClose (state new.handler.registry)
      → Opens (state new.handler.registry) (state opened) next
      → ClosedSessionLeaves base began.found broken.inputs (broken.answered.answers ++ broken.answered.last ∷ []) next

-- ---- theorems about a gateway over a registry

-- on the connection that was closed and returned, an open finds what a closed session leaves
abbrev pub ClosedSessionsAreFound : {C : Type 0} → (C → State) → (commits : C → Option ℕ) → Type 0
ClosedSessionsAreFound {C} state commits =
    (old new : HandlerValue C) (opened : C) (found next : Devices) (items : List Input) (answers : List Answer)
    → HasCleanDisk (state new.registry) → BeginsSession (registry_state_of state commits) old found
    → Handles (registry_state_of state commits) old items answers new → IsReturnedByClose (state new.registry)
    → Opens (state new.registry) (state opened) next → ClosedSessionLeaves old.base found items answers next

-- How the gateway's calls make up a session, from its start to the crash that ends it.
use Rattle.std.specs.Prelude.{◌≡◌, ℕ, List, Option, Some, None}
use Rattle.learned_devices.specs.DeviceStoreState.{DeviceStoreState, MayLeaveUpdate}
use Rattle.learned_devices.specs.Devices.{Devices, DeviceUpdate}
use Rattle.gateway_core.specs.Step.{State, Input, Answer, update_of}
use Rattle.gateway_core.specs.Run.{InputResult}
use Rattle.gateway_core.specs.Handling.{HandlerValue, HasState, Handles}
use Rattle.gateway_core.specs.Sessions.{IsSession, initial_state}

-- a session that found these devices, handled these inputs and crashed in this one may leave those
pub record SessionMayLeave (base : ℕ) (found : Devices) (inputs : List Input) (answers : List Answer)
    (interrupted : Option Input)
    (left : Devices) : Type 0 where
  pub results : List InputResult
  pub last : State
  pub is : IsSession (record {
    base = base;
    found = found;
    inputs = inputs;
    results = results;
    answers = answers;
    last = last;
    interrupted_input = interrupted;
    left = left;
  })

-- a session that found these devices, handled these inputs and was closed leaves these, the devices known at its end
pub record ClosedSessionLeaves (base : ℕ) (found : Devices) (inputs : List Input) (answers : List Answer)
    (left : Devices)
    : Type 0 where
  pub session : SessionMayLeave base found inputs answers None left
  pub itself : left ≡ session.last.devices

module _ {S : Type 0} (stored : S → DeviceStoreState) where
  -- a session begins: the gateway knows what was found, and a crash leaves only that
  pub record BeginsSession (v : HandlerValue S) (found : Devices) : Type 0 where
    pub at : HasState stored v (initial_state v.base found)
    pub crash : (left : Devices) → (stored v.registry).may_recover left → left ≡ found

  -- after anything that is handled from there on, a crash leaves what a session may leave
  abbrev pub CallsAreSessions : Type 0
  CallsAreSessions = (old new : HandlerValue S) (found : Devices) (inputs : List Input) (answers : List Answer)
      → (stored new.registry).honest → BeginsSession old found → Handles stored old inputs answers new
      → (left : Devices) → (stored new.registry).may_recover left
      → SessionMayLeave old.base found inputs answers None left

  -- The same holds within the next input, from its write on: during the write, if it fails, and after its commit,
  -- before its answer. The premise is that a crash at this moment leaves earlier devices, or those with the update.
  abbrev pub CrashesEndSessions : Type 0
  CrashesEndSessions =
      (old new : HandlerValue S) (within : S) (found : Devices) (inputs : List Input) (answers : List Answer)
      (input : Input)
      (update : DeviceUpdate) → (stored within).honest → (stored new.registry).honest
      → BeginsSession old found → Handles stored old inputs answers new
      → ((start : State) → HasState stored new start → update_of start input ≡ Some update)
      → ((devices : Devices) → (stored new.registry).holds devices
      → MayLeaveUpdate (stored new.registry) (stored within) update devices)
      → (left : Devices) → (stored within).may_recover left
      → SessionMayLeave old.base found inputs answers (Some input) left

  -- a session leaves what is known at its end, however it is closed
  abbrev pub ClosesEndSessions : Type 0
  ClosesEndSessions = (old new : HandlerValue S) (found : Devices) (inputs : List Input) (answers : List Answer)
      → (stored new.registry).honest → BeginsSession old found → Handles stored old inputs answers new
      → (last : Devices) × (stored new.registry).holds last × ClosedSessionLeaves old.base found inputs answers last

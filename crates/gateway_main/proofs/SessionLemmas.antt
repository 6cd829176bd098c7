-- What a crash leaves after `replay` or `live`.
use Rattle.std.proofs.Common.{ℕ, List, Option, None, inl, sym, subst}
use Rattle.sqlite.specs.State.{State, HasCleanDisk}
use Rattle.learned_devices.specs.Devices.{Devices}
use Rattle.device_registry.specs.declared.table.Version.TheVariants.{Second}
use Rattle.device_registry.specs.Holding.{IsReturnedByClose, Opens, registry_state_of}
use Rattle.device_registry.proofs.ForCallers.{closed_registry_is_found}
use Rattle.gateway_core.specs.Step.{Input, Answer}
use Rattle.gateway_core.specs.Handling.{HandlerValue, Handles}
use Rattle.gateway_core.specs.SessionCalls.{ClosedSessionLeaves, SessionMayLeave}
use Rattle.gateway_core.proofs.ForCallers.{crash_after_calls_ends_session, closed_session_leaves_last}
use Rattle.gateway_main.specs.Started.{Starts}
use Rattle.gateway_main.specs.SessionRuns.{RunsAreSessions, BrokenRunsAreSessions, ClosedRunsAreSessions}
use Rattle.gateway_main.specs.SessionRuns.{BrokenClosedRunsAreSessions, ClosedSessionsAreFound, CrashLeavesSession}

module _ {C : Type 0} (state : C → State) (commits : C → Option ℕ) where
  -- what a crash leaves after some inputs, a session may leave
  crash_leaves_session : {database : C} {base : ℕ} {old new : HandlerValue C} {inputs : List Input}
      {answers : List Answer} (began : Starts state commits database base old)
      → Handles (registry_state_of state commits) old inputs answers new → HasCleanDisk (state new.registry)
      → CrashLeavesSession (state new.registry) base began.found inputs answers
  crash_leaves_session {old = old} {new} {inputs} {answers} began handled clean trees may_leave =
      let registry = handled.reopenable clean began.registries trees may_leave in (
        registry.devices,
        inl (Second, registry.holds),
        subst (λ base. SessionMayLeave base began.found inputs answers None registry.devices) began.base_is
            (crash_after_calls_ends_session (registry_state_of state commits) old new began.found inputs answers clean
            began.begins handled registry.devices (trees, may_leave, registry.holds)),
      )

  pub runs_are_sessions : (puts : List Answer → Type 0) → RunsAreSessions state commits puts
  runs_are_sessions puts database base old new events began done clean =
      crash_leaves_session began done.answered.handled clean

  pub broken_runs_are_sessions : (breaks : List Answer → Answer → Type 0) → BrokenRunsAreSessions state commits breaks
  broken_runs_are_sessions breaks database base old new events event began broken clean =
      crash_leaves_session began broken.answered.handled clean

  pub closes_end_registry_sessions : ClosedSessionsAreFound state commits
  closes_end_registry_sessions old new opened found next inputs answers clean begins handled closed opens =
      let (last, holds, leaves) = closed_session_leaves_last (registry_state_of state commits) old new found inputs
      answers clean begins handled in
      subst (ClosedSessionLeaves old.base found inputs answers)
      (sym (closed_registry_is_found state new.registry opened last next clean closed.committed holds opens)) leaves

  -- what the open after a close finds, a closed session leaves
  close_leaves_session : {database : C} (opened : C) {base : ℕ} {old new : HandlerValue C} {inputs : List Input}
      {answers : List Answer} (next : Devices) (began : Starts state commits database base old)
      → Handles (registry_state_of state commits) old inputs answers new → HasCleanDisk (state new.registry)
      → IsReturnedByClose (state new.registry) → Opens (state new.registry) (state opened) next
      → ClosedSessionLeaves base began.found inputs answers next
  close_leaves_session opened {old = old} {new} {inputs} {answers} next began handled clean closed opens =
      subst (λ base. ClosedSessionLeaves base began.found inputs answers next) began.base_is
      (closes_end_registry_sessions old new opened began.found next inputs answers clean began.begins handled closed
      opens)

  pub closed_runs_are_sessions : (puts : List Answer → Type 0) → ClosedRunsAreSessions state commits puts
  closed_runs_are_sessions puts database opened base old new events next began done =
      close_leaves_session opened next began done.answered.handled

  pub broken_closed_runs_are_sessions : (breaks : List Answer → Answer → Type 0)
      → BrokenClosedRunsAreSessions state commits breaks
  broken_closed_runs_are_sessions breaks database opened base old new events event next began broken =
      close_leaves_session opened next began broken.answered.handled

-- Later sessions find what was acknowledged, and the calls of a gateway are a session.
use Rattle.std.proofs.lemmas.Grind.{common_steps}
use Rattle.std.proofs.Common.{◌≡◌, inl, inr, ℕ, true, List, [], ◌∷◌, Option, Some, None, sym, ◌∙◌, arith, nat_cmp}
use Rattle.std.proofs.Common.{rules, refl}
use Rattle.std.specs.List.{AllByRecursion}
use Rattle.std.specs.Ordering.{eq_by_cmp}
use Rattle.std.proofs.lemmas.Bool.Decides.{nat_tests}
use Rattle.std.specs.FinMap.{get}
use Rattle.std.specs.Prelude.{IsSome, IfSome}
use Rattle.learned_devices.specs.Devices.{DeviceData, Devices, Operation, DeviceUpdate, data_after, apply_update}
use Rattle.learned_devices.specs.Devices.{relabel_update, device_of, device, Relabel}
use Rattle.learned_devices.proofs.ForCallers.{get-entered}
use Rattle.gateway_core.specs.Step.{State, Input, update_of, with_update, state_after_applied_input}
use Rattle.gateway_core.specs.Run.{InputResult, Applied, Failed, FailedAtCommit, state_after_result}
use Rattle.gateway_core.specs.Promises.{Promises, IsPromiseKeptBy}
use Rattle.gateway_core.specs.CrashStates.{CrashStates, nothing_committed_yet, after_committed_update}
use Rattle.gateway_core.specs.CrashStates.{with_pending_update, crash_states_after_result, crash_states}
use Rattle.gateway_core.specs.CrashStates.{IsCrashConsistent}
use Rattle.gateway_core.specs.Sessions.{Session, initial_state, with_interrupted, IsSession, AreSessions}
use Rattle.gateway_core.specs.Sessions.{possible_update, IsNotOverriddenBy, NoneOverrides, InterruptedDoesNotOverride}
use Rattle.gateway_core.specs.Sessions.{SessionDoesNotOverride, UpdatesSurviveRestarts}
use Rattle.gateway_core.proofs.EffectLemmas.{of_effect, if-either}
use Rattle.gateway_core.specs.Prefixes.{state_after_run}
use Rattle.gateway_core.proofs.RunLemmas.{run-last, state_after_run-append}
use Rattle.gateway_core.proofs.CrashLemmas.{crash_states-append, crash_consistent-weaker, crash_consistent-with_pending}
use Rattle.gateway_core.proofs.CrashLemmas.{crash_consistent-after_run}
use Rattle.std.specs.Option.{option_map}
use Rattle.learned_devices.specs.DeviceStoreState.{DeviceStoreState}
use Rattle.gateway_core.specs.SessionCalls.{CallsAreSessions, ClosesEndSessions, CrashesEndSessions}

get-updated : (devices : Devices) (update : DeviceUpdate)
    → get (apply_update devices update) update.sender ≡ data_after (get devices update.sender) update.operation
get-updated devices update =
    let same : eq_by_cmp nat_cmp update.sender update.sender ≡ true = grind (arith, nat_tests) in
    rw (get-entered devices update.sender (data_after (get devices update.sender) update.operation) update.sender, same)

-- ---- guarantees

-- an operation that keeps the guarantee
Promises-kept : (operation other : Operation) (known : Option DeviceData) → IsPromiseKeptBy operation other
    → Promises operation known
    → Promises operation (data_after known other)
Promises-kept operation other known keeps promised = grind arith

-- an update that keeps the guarantee, or is of another sender
Promises-after_update : (devices : Devices) (kept update : DeviceUpdate) → IsNotOverriddenBy kept (Some update)
    → Promises kept.operation (get devices kept.sender)
    → Promises kept.operation (get (apply_update devices update) kept.sender)
Promises-after_update devices kept update spared promised =
    let after = data_after (get devices update.sender) update.operation in
    rw (get-entered devices update.sender after kept.sender)
    (if-either (Promises kept.operation) (eq_by_cmp nat_cmp kept.sender update.sender) _ _
    (λ is_same.
    let same : kept.sender ≡ update.sender = grind (arith, nat_tests) in
    elim spared [
      | inl apart ↦ absurd (apart (sym same))
      | inr keeps ↦ Promises-kept kept.operation update.operation (get devices update.sender) keeps
          (rw same at promised)
    ]) (λ is_other. promised))

-- the guarantee holds once the update is made
abbrev IsPromised : Devices → DeviceUpdate → Type 0
IsPromised devices update = Promises update.operation (data_after (get devices update.sender) update.operation)

-- each update that an input asks for makes its guarantee true: only a learned sender is labelled
input-promises : (state : State) (input : Input) (update : DeviceUpdate) → update_of state input ≡ Some update
    → IsPromised state.devices update
input-promises state input update asks =
    rw asks at (of_effect (λ e. IfSome e.update (IsPromised state.devices)) state (λ packet. search rules)
    (λ line. search (rules, labelled)) input)
  where
    labelled : (id : ℕ) (label : List ℕ) → IsSome (device_of state.devices id)
        → IsPromised state.devices (relabel_update id label)
    labelled id label = known_only (get state.devices id)
      where
        known_only : (known : Option DeviceData) → IsSome (option_map (device id) known)
            → Promises (Relabel label) (data_after known (Relabel label))
        known_only (Some data_before) is = (_, refl, refl)
        known_only None is = absurd cc

module _ (Before : Devices → Type 0) (kept : DeviceUpdate) where
  -- the guarantee holds for the sender, also in every crash state
  record IsKept (left : CrashStates) (devices : Devices) : Type 0 where
    pub now : Promises kept.operation (get devices kept.sender)
    pub safe : (d : Devices) → IsCrashConsistent Before left d → Promises kept.operation (get d kept.sender)

  IsKept-of_commit : (left : CrashStates) (devices : Devices) (update : DeviceUpdate)
      → Promises kept.operation (get (apply_update devices update) kept.sender)
      → IsKept (after_committed_update left devices (Some update)) (apply_update devices update)
  IsKept-of_commit left devices update promised = grind (arith, common_steps)

  IsKept-after_commit : (left : CrashStates) (devices : Devices) (update : Option DeviceUpdate)
      → IsNotOverriddenBy kept update → IsKept left devices
      → IsKept (after_committed_update left devices update) (with_update devices update)
  IsKept-after_commit left devices None spared all = all
  IsKept-after_commit left devices (Some update) spared all =
      IsKept-of_commit left devices update (Promises-after_update devices kept update spared all.now)

  IsKept-with_pending : (left : CrashStates) (devices : Devices) (update : Option DeviceUpdate)
      → IsNotOverriddenBy kept update → IsKept left devices
      → IsKept (with_pending_update left devices update) devices
  IsKept-with_pending left devices None spared all = all
  IsKept-with_pending left devices (Some update) spared all = record {
    now = all.now;
    safe = λ d safe. elim safe [
      | inl (inl is) ↦ rw is (Promises-after_update devices kept update spared all.now)
      | inl (inr more) ↦ all.safe d (inl more)
      | inr before ↦ all.safe d (inr before)
    ];
  }

  after_result : (left : CrashStates) (state : State) (input : Input) (result : InputResult)
      → IsNotOverriddenBy kept (possible_update state input result)
      → IsKept left state.devices → IsKept (crash_states_after_result left state input result)
      (state_after_result state input result).devices
  after_result left state input Applied spared all =
      IsKept-after_commit left state.devices (update_of state input) spared all
  after_result left state input (Failed cause) spared all = all
  after_result left state input (FailedAtCommit cause) spared all =
      IsKept-with_pending left state.devices (update_of state input) spared all

  after_run : (left : CrashStates) (state : State) (inputs : List Input) (results : List InputResult)
      → NoneOverrides kept state inputs results → IsKept left state.devices
      → IsKept (crash_states left state inputs results) (state_after_run state inputs results).devices
  after_run left state (input ∷ inputs) (result ∷ results) spared all =
      after_run (crash_states_after_result left state input result) (state_after_result state input result) inputs
      results spared.1 (after_result left state input result spared.0 all)
  after_run left state inputs results spared all = all

  -- so it holds for the devices that a session leaves
  after_crash : (left : CrashStates) (state : State) (interrupted : Option Input)
      → InterruptedDoesNotOverride kept state interrupted → IsKept left state.devices → (d : Devices)
      → IsCrashConsistent Before (with_interrupted left state interrupted) d
      → Promises kept.operation (get d kept.sender)
  after_crash left state None spared all = all.safe
  after_crash left state (Some input) spared all =
      (IsKept-with_pending left state.devices (update_of state input) spared all).safe

-- a session that finds the guarantee, and does not override it, leaves it
session-keeps_promise : (kept : DeviceUpdate) (session : Session) → IsSession session
    → SessionDoesNotOverride kept session
    → Promises kept.operation (get session.found kept.sender) → Promises kept.operation (get session.left kept.sender)
session-keeps_promise kept session is spared found =
    let Before = λ (devices : Devices). devices ≡ session.found in
    let start = initial_state session.base session.found in
    let ends = (run-last start session.last session.inputs session.results session.answers is.run).1 in
    let first : IsKept Before kept nothing_committed_yet session.found = record {
      now = found;
      safe = λ d safe. elim safe [ inl never ↦ absurd never | inr same ↦ rw same.1 found ];
    } in
    after_crash Before kept (crash_states nothing_committed_yet start session.inputs session.results) session.last
    session.interrupted_input spared.1
    (rw ends (after_run Before kept nothing_committed_yet start session.inputs session.results spared.0 first))
    session.left is.safe

sessions-keep_promise : (kept : DeviceUpdate) (found : Devices) (sessions : List Session) (last : Devices)
    → AreSessions found sessions last → AllByRecursion (SessionDoesNotOverride kept) sessions
    → Promises kept.operation (get found kept.sender) → Promises kept.operation (get last kept.sender)
sessions-keep_promise kept found [] last are spared promised = rw are promised
sessions-keep_promise kept found (session ∷ sessions) last are spared promised =
    sessions-keep_promise kept session.left sessions last are.2 spared.1
    (session-keeps_promise kept session are.1 spared.0 (rw are.0 promised))

pub updates_survive_restarts : UpdatesSurviveRestarts
updates_survive_restarts session update sessions last is acknowledged spared are =
    let Before = λ (devices : Devices). devices ≡ session.found in
    let start = initial_state session.base session.found in
    let before = acknowledged.state_before in
    let input = acknowledged.input in
    let early = crash_states nothing_committed_yet start acknowledged.earlier_inputs acknowledged.earlier_results in
    let early_ends = run-last start before acknowledged.earlier_inputs acknowledged.earlier_results
    acknowledged.earlier_answers acknowledged.run in
    let ends = (run-last start session.last session.inputs session.results session.answers is.run).1 in
    let promised = input-promises before input update acknowledged.asks_for_update in
    let committed : IsKept Before update (crash_states_after_result early before input Applied)
    (state_after_applied_input before input).devices =
    rw acknowledged.asks_for_update (IsKept-of_commit Before update early before.devices update
    (rw (get-updated before.devices update) promised)) in
    let all = after_run Before update (crash_states_after_result early before input Applied)
    (state_after_applied_input before input) acknowledged.later_inputs acknowledged.later_results
    acknowledged.not_overridden_after committed in
    let states : crash_states nothing_committed_yet start session.inputs session.results
    ≡ crash_states (crash_states_after_result early before input Applied) (state_after_applied_input before input)
    acknowledged.later_inputs acknowledged.later_results =
    rw (acknowledged.inputs_are, acknowledged.results_are, early_ends.1)
    (crash_states-append nothing_committed_yet start acknowledged.earlier_inputs (input ∷ acknowledged.later_inputs)
    acknowledged.earlier_results (Applied ∷ acknowledged.later_results) early_ends.0) in
    let last_state : session.last ≡ state_after_run (state_after_applied_input before input) acknowledged.later_inputs
    acknowledged.later_results =
    ends ∙ rw (acknowledged.inputs_are, acknowledged.results_are, early_ends.1)
    (state_after_run-append start acknowledged.earlier_inputs (input ∷ acknowledged.later_inputs)
    acknowledged.earlier_results (Applied ∷ acknowledged.later_results) early_ends.0) in
    sessions-keep_promise update session.left sessions last are spared
    (after_crash Before update (crash_states nothing_committed_yet start session.inputs session.results) session.last
    session.interrupted_input acknowledged.crash (rw (states, last_state) all) session.left is.safe)

-- ---- one session, from its calls

module _ {S : Type 0} (stored : S → DeviceStoreState) where
  pub crash_after_calls_ends_session : CallsAreSessions stored
  crash_after_calls_ends_session old new found inputs answers honest begins handles left may =
      let handled = handles.ran_from_any honest (initial_state old.base found) begins.at in
      record {
        results = handled.results;
        last = handled.last;
        is = record {
          run = handled.run;
          safe = crash_consistent-weaker (stored old.registry).may_recover (λ d. d ≡ found) begins.crash _ left
              (handled.crash left may);
        };
      }

  pub crash_in_input_ends_session : CrashesEndSessions stored
  crash_in_input_ends_session old new within found inputs answers input update honest early begins handles asks tries
      left may
      =
      let handled = handles.ran_from_any early (initial_state old.base found) begins.at in
      let Before = λ (devices : Devices). devices ≡ found in
      let states = crash_states nothing_committed_yet (initial_state old.base found) inputs handled.results in
      let safe : IsCrashConsistent Before (with_pending_update states handled.last.devices
      (update_of handled.last input))
      left =
      elim (tries handled.last.devices handled.at.2 left may) [
        | inl before ↦ crash_consistent-with_pending Before states handled.last.devices (update_of handled.last input)
            left
            (crash_consistent-weaker (stored old.registry).may_recover Before begins.crash states left
            (handled.crash left before))
        | inr made ↦ rw (asks handled.last handled.at) (inl (inl made))
      ] in
      record { results = handled.results; last = handled.last; is = record { run = handled.run; safe = safe } }

  pub closed_session_leaves_last : ClosesEndSessions stored
  closed_session_leaves_last old new found inputs answers honest begins handles =
      let start = initial_state old.base found in
      let handled = handles.ran_from_any honest start begins.at in (
        handled.last.devices,
        handled.at.2,
        record {
          session = record {
            results = handled.results;
            last = handled.last;
            is = record {
              run = handled.run;
              safe = rw (run-last start handled.last inputs handled.results answers handled.run).1
                  (crash_consistent-after_run (λ devices. devices ≡ found) nothing_committed_yet start inputs
                  handled.results
                  (inr (refl, refl)));
            };
          };
          itself = refl;
        },
      )

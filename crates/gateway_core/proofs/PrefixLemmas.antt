-- Crash-consistent devices are those known after a prefix of the inputs, and the other way round.
use Rattle.std.proofs.Common.{◌≡◌, ◌<◌, ◌⊎◌, inl, inr, length, List, [], ◌∷◌, ◌++◌, Option, refl, sym, ap, ◌∙◌, arith}
use Rattle.learned_devices.specs.Devices.{Devices, DeviceUpdate}
use Rattle.gateway_core.specs.Step.{State, Input, update_of, with_update}
use Rattle.gateway_core.specs.Run.{InputResult, FailedAtCommit, state_after_result}
use Rattle.gateway_core.specs.CrashStates.{CrashStates, nothing_committed_yet, with_pending_update}
use Rattle.gateway_core.specs.CrashStates.{crash_states_after_result, crash_states, IsCrashConsistent}
use Rattle.gateway_core.specs.Sessions.{initial_state, with_interrupted}
use Rattle.gateway_core.specs.Prefixes.{HasAcknowledgedUpdate, NoUpdateAcknowledged, state_after_run, AfterPrefix}
use Rattle.gateway_core.specs.Prefixes.{CrashStatesArePrefixes, AcknowledgedAreInPrefix, HasFailedNextUpdate}
use Rattle.gateway_core.specs.Prefixes.{HasInterruptedUpdate, SessionsLeavePrefixes, PrefixesEndSessions}
use Rattle.gateway_core.proofs.RunLemmas.{run-last}
use Rattle.gateway_core.proofs.CrashLemmas.{crash_states-append, crash_consistent-after_run}

-- no input is in the prefix
prefix-start : (state : State) (inputs : List Input) (results : List InputResult) (devices : Devices)
    → NoUpdateAcknowledged state inputs results
    → (devices ≡ state.devices) ⊎ HasFailedNextUpdate state inputs results devices
    → AfterPrefix state inputs results devices
prefix-start state inputs results devices unacknowledged devices_are = record {
  earlier_inputs = [];
  later_inputs = inputs;
  earlier_results = [];
  later_results = results;
  inputs_are = refl;
  results_are = refl;
  as_many_results = refl;
  mid = state;
  mid_is = refl;
  later_unacknowledged = unacknowledged;
  devices_are = devices_are;
}

-- one more input is in the prefix
prefix-next : (state : State) (input : Input) (inputs : List Input) (result : InputResult) (results : List InputResult)
    (devices : Devices) → AfterPrefix (state_after_result state input result) inputs results devices
    → AfterPrefix state (input ∷ inputs) (result ∷ results) devices
prefix-next state input inputs result results devices prefix = record {
  earlier_inputs = input ∷ prefix.earlier_inputs;
  later_inputs = prefix.later_inputs;
  earlier_results = result ∷ prefix.earlier_results;
  later_results = prefix.later_results;
  inputs_are = ap (λ others. input ∷ others) prefix.inputs_are;
  results_are = ap (λ others. result ∷ others) prefix.results_are;
  as_many_results = omega (arith, prefix.as_many_results);
  mid = prefix.mid;
  mid_is = prefix.mid_is;
  later_unacknowledged = prefix.later_unacknowledged;
  devices_are = prefix.devices_are;
}

module _ (Before : Devices → Type 0) where
  -- Devices that are crash-consistent after one input were so before it, or they are those after it, or those with the
  -- update of an input that failed at its commit.
  abbrev Steps : CrashStates → State → Input → InputResult → Devices → Type 0
  Steps left state input result devices =
      (IsCrashConsistent Before left devices × (¬ HasAcknowledgedUpdate state input result))
      ⊎ ((devices ≡ (state_after_result state input result).devices)
      ⊎ ((¬ HasAcknowledgedUpdate state input result)
      × ((inputs : List Input) (results : List InputResult)
      → HasFailedNextUpdate state (input ∷ inputs) (result ∷ results) devices)))

  steps : (left : CrashStates) (state : State) (input : Input) (result : InputResult) (devices : Devices)
      → IsCrashConsistent Before (crash_states_after_result left state input result) devices
      → Steps left state input result devices
  steps left state input result devices safe = grind arith

  prefixes : (left : CrashStates) (state : State) (inputs : List Input) (results : List InputResult) (devices : Devices)
      → length inputs ≡ length results → IsCrashConsistent Before (crash_states left state inputs results) devices
      → (IsCrashConsistent Before left devices × NoUpdateAcknowledged state inputs results)
      ⊎ AfterPrefix state inputs results devices
  prefixes left state [] [] devices as_many safe = inl (safe, tt)
  prefixes left state (input ∷ inputs) (result ∷ results) devices as_many safe =
      let next = state_after_result state input result in
      elim (prefixes (crash_states_after_result left state input result) next inputs results devices
      (omega (arith, as_many)) safe) [
        | inr prefix ↦ inr (prefix-next state input inputs result results devices prefix)
        | inl (consistent, unacknowledged) ↦ elim (steps left state input result devices consistent) [
          | inl (old, none) ↦ inl (old, (none, unacknowledged))
          | inr (inl new) ↦ inr (prefix-next state input inputs result results devices
              (prefix-start next inputs results devices unacknowledged (inl new)))
          | inr (inr (none, fails)) ↦ inr (prefix-start state (input ∷ inputs) (result ∷ results) devices
              (none, unacknowledged) (inr (fails inputs results)))
        ]
      ]
  prefixes left state inputs results devices as_many safe = absurd (omega (arith, as_many))

pub crash_states_are_prefixes : CrashStatesArePrefixes
crash_states_are_prefixes start inputs results devices as_many safe =
    elim (prefixes (λ found. found ≡ start.devices) nothing_committed_yet start inputs results devices as_many safe) [
      | inr prefix ↦ prefix
      | inl (inl never, unacknowledged) ↦ absurd never
      | inl (inr found, unacknowledged) ↦ prefix-start start inputs results devices unacknowledged (inl found.1)
    ]

-- no input in a list without acknowledged ones was acknowledged
unacknowledged-at : (state : State) (ahead behind : List Input) (input : Input) (earlier later : List InputResult)
    (result : InputResult)
    → NoUpdateAcknowledged state (ahead ++ input ∷ behind) (earlier ++ result ∷ later) → length ahead ≡ length earlier
    → ¬ HasAcknowledgedUpdate (state_after_run state ahead earlier) input result
unacknowledged-at state [] behind input [] later result none same = none.0
unacknowledged-at state (first ∷ ahead) behind input (its ∷ earlier) later result none same =
    unacknowledged-at (state_after_result state first its) ahead behind input earlier later result none.1
    (omega (arith, same))
unacknowledged-at state ahead behind input earlier later result none same = absurd (omega (arith, same))

acknowledged-before : (state : State) (before after ahead behind : List Input) (input : Input)
    (done more earlier later : List InputResult) (result : InputResult)
    → before ++ after ≡ ahead ++ input ∷ behind → done ++ more ≡ earlier ++ result ∷ later → length before ≡ length done
    → length ahead ≡ length earlier
    → NoUpdateAcknowledged (state_after_run state before done) after more
    → HasAcknowledgedUpdate (state_after_run state ahead earlier) input result
    → length ahead < length before
acknowledged-before state [] after ahead behind input [] more earlier later result inputs results many same none is =
    absurd (unacknowledged-at state ahead behind input earlier later result (rw (inputs, results) at none) same is)
acknowledged-before state (first ∷ before) after (next ∷ ahead) behind input (its ∷ done) more
    (other ∷ earlier) later result inputs
    results many same none is =
    let same_input : next ≡ first = cc in
    let same_result : other ≡ its = cc in
    omega (
      arith,
      acknowledged-before (state_after_result state first its) before after ahead behind input done more earlier later
          result
          (cc) (cc) (omega (arith, many)) (omega (arith, same)) none (rw (same_input, same_result) at is),
    )
acknowledged-before state before after ahead behind input done more earlier later result inputs results many same none
    is =
    omega (arith, many, same)

pub acknowledged_are_in_prefix : AcknowledgedAreInPrefix
acknowledged_are_in_prefix start inputs ahead behind input results earlier later result devices prefix is are same
    acknowledged =
    acknowledged-before start prefix.earlier_inputs prefix.later_inputs ahead behind input prefix.earlier_results
    prefix.later_results earlier later result (sym prefix.inputs_are ∙ is) (sym prefix.results_are ∙ are)
    prefix.as_many_results same (rw prefix.mid_is at prefix.later_unacknowledged) acknowledged

interrupted-leaves_pending : (Before : Devices → Type 0) (left : CrashStates) (state : State)
    (interrupted : Option Input)
    (devices : Devices)
    → IsCrashConsistent Before (with_interrupted left state interrupted) devices
    → IsCrashConsistent Before left devices ⊎ HasInterruptedUpdate state interrupted devices
interrupted-leaves_pending Before left state interrupted devices safe = grind arith

pub sessions_leave_prefixes : SessionsLeavePrefixes
sessions_leave_prefixes session is =
    let start = initial_state session.base session.found in
    let as_many = (run-last start session.last session.inputs session.results session.answers is.run).0 in
    elim (interrupted-leaves_pending (λ devices. devices ≡ session.found)
    (crash_states nothing_committed_yet start session.inputs session.results)
    session.last
    session.interrupted_input session.left is.safe) [
      | inl safe ↦ inl (crash_states_are_prefixes start session.inputs session.results session.left as_many safe)
      | inr done ↦ inr done
    ]

-- ---- devices after a prefix are crash-consistent

module _ (Before : Devices → Type 0) where
  -- what is crash-consistent stays so, while no update is acknowledged
  crash_consistent-unacknowledged : (left : CrashStates) (state : State) (inputs : List Input)
      (results : List InputResult)
      (devices : Devices)
      → IsCrashConsistent Before left devices → NoUpdateAcknowledged state inputs results
      → IsCrashConsistent Before (crash_states left state inputs results) devices
  crash_consistent-unacknowledged left state (input ∷ inputs) (result ∷ results) devices safe none =
      crash_consistent-unacknowledged (crash_states_after_result left state input result)
      (state_after_result state input result)
      inputs results devices (after_one result none.0) none.1
    where
      after_one : (result : InputResult) → ¬ HasAcknowledgedUpdate state input result
          → IsCrashConsistent Before (crash_states_after_result left state input result) devices
      after_one result none = grind arith
  crash_consistent-unacknowledged left state inputs results devices safe none = safe

  crash_consistent-pending_is_done : (left : CrashStates) (known devices : Devices) (update : Option DeviceUpdate)
      → IsCrashConsistent Before left known → devices ≡ with_update known update
      → IsCrashConsistent Before (with_pending_update left known update) devices
  crash_consistent-pending_is_done left known devices update safe is = grind arith

  -- the update of the first input may be there, if that failed at its commit
  crash_consistent-failed_next : (left : CrashStates) (state : State) (inputs : List Input) (results : List InputResult)
      (devices : Devices)
      → IsCrashConsistent Before left state.devices → NoUpdateAcknowledged state inputs results
      → HasFailedNextUpdate state inputs results devices
      → IsCrashConsistent Before (crash_states left state inputs results) devices
  crash_consistent-failed_next left state (input ∷ inputs) (FailedAtCommit cause ∷ results) devices safe none is =
      crash_consistent-unacknowledged (with_pending_update left state.devices (update_of state input))
      (state_after_result state input (FailedAtCommit cause)) inputs results devices
      (crash_consistent-pending_is_done left state.devices devices (update_of state input) safe is) none.1
  crash_consistent-failed_next left state inputs results devices safe none is = absurd is

crash_consistent-after_prefix : (start : State) (inputs : List Input) (results : List InputResult) (devices : Devices)
    → AfterPrefix start inputs results devices
    → IsCrashConsistent (λ found. found ≡ start.devices) (crash_states nothing_committed_yet start inputs results)
    devices
crash_consistent-after_prefix start inputs results devices prefix =
    let Before = λ (found : Devices). found ≡ start.devices in
    let mid = state_after_run start prefix.earlier_inputs prefix.earlier_results in
    let left = crash_states nothing_committed_yet start prefix.earlier_inputs prefix.earlier_results in
    let safe =
    crash_consistent-after_run Before nothing_committed_yet start prefix.earlier_inputs prefix.earlier_results
    (inr (refl, refl)) in
    let none = rw prefix.mid_is at prefix.later_unacknowledged in
    rw (
      prefix.inputs_are,
      prefix.results_are,
      crash_states-append nothing_committed_yet start prefix.earlier_inputs
          prefix.later_inputs prefix.earlier_results prefix.later_results prefix.as_many_results,
    )
    (elim prefix.devices_are [
      | inl same ↦ crash_consistent-unacknowledged Before left mid prefix.later_inputs prefix.later_results devices
          (rw (same, prefix.mid_is) safe) none
      | inr fails ↦ crash_consistent-failed_next Before left mid prefix.later_inputs prefix.later_results devices safe
          none
          (rw prefix.mid_is at fails)
    ])

pub prefixes_end_sessions : PrefixesEndSessions
prefixes_end_sessions base found inputs results answers last left run prefix =
    record { run = run; safe = crash_consistent-after_prefix (initial_state base found) inputs results left prefix }

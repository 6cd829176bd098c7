-- One input, applied or failed.
use Rattle.std.proofs.lemmas.Grind.{common_steps}
use Rattle.std.proofs.Common.{◌≡◌, inl, inr, ℕ, ◌≤◌, Bool, true, false, List, [], ◌∷◌, length, Option, Some, None}
use Rattle.std.proofs.Common.{Result, Ok, Err, refl, ap, ◌∙◌, arith}
use Rattle.std.specs.Prelude.{MatchBool, is_some, if◌then◌else◌, MatchResult}
use Rattle.std.specs.FinMap.{get}
use Rattle.learned_devices.specs.CommitCounts.{AtMostMoreCommits}
use Rattle.learned_devices.specs.DeviceStoreState.{DeviceStoreState, Keeps, Commits, LeavesPending}
use Rattle.erp1_telegrams.specs.declared.eep.Eep.{Eep}
use Rattle.erp1_telegrams.specs.Telegram.{Telegram}
use Rattle.profile_rows.specs.Reading.{Entry}
use Rattle.profile_rows.specs.declared.unreadable.Unreadable.{Unreadable}
use Rattle.learned_devices.specs.declared.Device.{Device}
use Rattle.learned_devices.specs.Devices.{Devices, device_of, DeviceUpdate, learn_update}
use Rattle.learned_devices.specs.Devices.{relabel_update}
use Rattle.teach_in.specs.declared.mode.Mode.{Mode}
use Rattle.teach_in.specs.Profiles.{supported}
use Rattle.teach_in.specs.declared.outcome.Outcome.{Outcome}
use Rattle.teach_in.specs.declared.outcome.Outcome.TheVariants.{Full}
use Rattle.teach_in.specs.declared.telegrams.Teach.{Teach}
use Rattle.teach_in.specs.declared.plans.Plan.TheVariants.{Refuse}
use Rattle.teach_in.specs.Telegrams.{teach_in_of}
use Rattle.teach_in.specs.Plans.{plan_of}
use Rattle.teach_in.proofs.ForCallers.{either}
use Rattle.gateway_state.specs.declared.error_reason.ErrorReason.TheVariants as error
use Rattle.teach_in.specs.declared.verdict.Verdict.{Verdict}
use Rattle.learned_devices.specs.declared.fault.StoreFault.{StoreFault}
use Rattle.gateway_core.specs.declared.failure.Failure.{Failure}
use Rattle.gateway_core.specs.declared.failure.Failure.TheVariants.{BeforeCommit, AtCommit}
use Rattle.gateway_state.specs.declared.counts.Counts.{Counts}
use Rattle.gateway_state.specs.Counts.{increment_if_any}
use Rattle.json_lines.specs.Lines.{Error, Teach as TeachOf, TeachLine, text}
use Rattle.gateway_core.specs.Step.{State, Input, Answer, Effect, with_packet_line, packet_line_for, counter_in}
use Rattle.gateway_core.specs.Step.{lines_effect, ordered_learn_effect, if_full_of_others_else, if_learned_else_error}
use Rattle.gateway_core.specs.Step.{relabel_effect, order_effect, line_effect, reading_effect, case_effect, data_case}
use Rattle.gateway_core.specs.Step.{effect, update_of, need_of_memory_or_store, with_update, state_after_applied_input}
use Rattle.gateway_core.specs.Step.{with_mode, plan_effect, teach_report_effect, radio_bytes_of, reply_telegram_of}
use Rattle.gateway_core.specs.Step.{query_teach_line, if_supported_else_error, mode_effect, accept_effect}
use Rattle.gateway_core.specs.Step.{device_teach_line, unexplained_answer, send_result_effect, Cause, Memory, Need}
use Rattle.gateway_core.specs.Step.{NeedsMemory, NeedsStore, MayFailFor}
use Rattle.desk_orders.specs.Limits.{max_line}
use Rattle.desk_orders.specs.declared.orders.Order.{Order}
use Rattle.desk_orders.specs.declared.orders.OrderFault.{OrderFault}
use Rattle.desk_orders.specs.declared.orders.OrderFault.TheVariants.{UnknownDevice}
use Rattle.desk_orders.specs.Orders.{order_of}
use Rattle.gateway_core.specs.Dispositions.{eep_in_query, maker_in_query}
use Rattle.gateway_core.specs.Profiles.{read_by}
use Rattle.gateway_core.specs.private.Failures.{cause_of}
use Rattle.gateway_core.specs.Run.{failure_answer, Applied, Failed, FailedAtCommit, state_after_failure}
use Rattle.gateway_core.specs.CrashStates.{nothing_committed_yet, after_committed_update, IsCrashConsistent}
use Rattle.gateway_core.specs.Handling.{HandlerValue, HandlesFrom, Handles}
use Rattle.gateway_core.specs.private.Attempts.{HandlerEffect, state_of, MatchesEffect, IsUpdateCommitted, IsPending}
use Rattle.gateway_core.specs.private.Attempts.{AppliesOrFails, Attempts, counts_from, explained_answer_to, mode_from}
use Rattle.gateway_core.specs.private.Attempts.{ChangesOnlyRegistry, TriesToLearn}
use Rattle.teach_in.specs.declared.plans.Plan.{Plan}
use Rattle.learned_devices.specs.StoreCalls.{LooksUp}

-- the state that consists of these parts
abbrev pub known_with : ℕ → Mode → Counts → Devices → State
known_with base mode counts devices = record { base = base; mode = mode; counts = counts; devices = devices }

-- ---- what is kept

-- ---- what needs the device store, which may fail for either cause

pub MayFailFor-store : (need : Need) (cause : Cause) → need ≡ NeedsStore → MayFailFor need cause
MayFailFor-store need cause is = rw is tt

-- what needs memory may fail for lack of it, whether the device store was asked or not
pub MayFailFor-memory_or_store : (asked : Bool) → MayFailFor (if asked then NeedsStore else NeedsMemory) Memory
MayFailFor-memory_or_store asked = grind arith

plan-need : (state : State) (t : Telegram) (plan : Plan) → (plan_effect state t true plan).need ≡ NeedsStore
plan-need state t plan = grind arith

reading-need : (t : Telegram) (known : Device) (readings : Result (List Entry) Unreadable)
    → (reading_effect t known readings).need ≡ NeedsStore
reading-need t known (Ok readings) = refl
reading-need t known (Err fault) = refl

pub data-need : (state : State) (t : Telegram) (known : Option Device)
    → (case_effect state t (data_case known)).need ≡ NeedsStore
data-need state t None = plan-need state t (plan_of t state.mode false)
data-need state t (Some known) = reading-need t known (read_by known.eep t)

pub telegram-need : (telegram : Option (Result Telegram OrderFault))
    → (send_result_effect true telegram).need ≡ NeedsStore
telegram-need telegram = grind arith

-- ---- effects that change no device

pub reading-unchanging : (t : Telegram) (known : Device) (readings : Result (List Entry) Unreadable)
    → (reading_effect t known readings).update ≡ None
reading-unchanging t known (Ok readings) = refl
reading-unchanging t known (Err fault) = refl

pub send-unchanging : (asked : Bool) (telegram : Option (Result Telegram OrderFault))
    → (send_result_effect asked telegram).update ≡ None
send-unchanging asked telegram = grind arith

pub mode-unchanging : (eep : Eep) (mode : Mode) → (if_supported_else_error eep (mode_effect mode)).update ≡ None
mode-unchanging eep mode = either (λ (e : Effect). e.update ≡ None) (supported eep) _ _ refl refl

-- ---- what is reported

-- the line and the reply for a sender
pub teach_line-answer : (state : State) (kind : Teach) (line : TeachLine) (answer : Answer) (outcome : Outcome)
    (desk : List ℕ)
    → outcome ≡ line.outcome → desk ≡ text (TeachOf line)
    → answer ≡ record {
      radio = radio_bytes_of
          (reply_telegram_of state.base state.mode kind outcome);
      explanation = [];
      desk = desk;
    }
    → answer ≡ unexplained_answer (teach_report_effect state kind line)
teach_line-answer state kind line answer outcome desk is says answer_is = grind (arith, common_steps)

-- the line with the outcome for a sender, by what its telegram contains
pub teach_line-of_query : (id : ℕ) (kind : Teach) (outcome : Outcome) (eep : Option Eep) (maker : Option ℕ)
    → eep ≡ eep_in_query kind → maker ≡ maker_in_query kind
    → query_teach_line id kind outcome ≡ record { eep = eep; id = id; maker = maker; outcome = outcome }
teach_line-of_query id kind outcome eep maker first second = rw (first, second) refl

-- a sender is rejected with the line of its telegram
pub refusal_line-matches : (done : HandlerEffect) (state : State) (t : Telegram) (kind : Teach) (id : ℕ)
    (line : TeachLine)
    (outcome : Outcome) → kind ≡ teach_in_of t → id ≡ t.sender → query_teach_line id kind outcome ≡ line
    → MatchesEffect done (teach_report_effect state kind line)
    → MatchesEffect done (plan_effect state t true (Refuse outcome))
refusal_line-matches done state t kind id line outcome is sent_by is_reported = grind (arith)

-- the effects of a device that is to be learned: if the registry is full, and if not
pub record LearnEffects (known : Device) : Type 0 where
  pub full : State → Effect
  pub done : State → Effect
  pub full-needs_store : (state : State) → (full state).need ≡ NeedsStore
  pub full-has_no_update : (state : State) → (full state).update ≡ None
  pub done-needs_store : (state : State) → (done state).need ≡ NeedsStore
  pub learns : (state : State) → (done state).update ≡ Some (learn_update known)

abbrev pub learn_effect : (known : Device) → LearnEffects known → State → Effect
learn_effect known effects state = if_full_of_others_else state.devices known (effects.full state) (effects.done state)

abbrev pub by_desk : (known : Device) → LearnEffects known
by_desk known = record {
  full = λ state. lines_effect NeedsStore (Error error.Full ∷ []);
  done = λ state. ordered_learn_effect known;
  full-needs_store = λ state. refl;
  full-has_no_update = λ state. refl;
  done-needs_store = λ state. refl;
  learns = λ state. refl;
}

abbrev pub by_radio : Teach → (known : Device) → LearnEffects known
by_radio kind known = record {
  full = λ state. teach_report_effect state kind (device_teach_line known Full);
  done = λ state. accept_effect state kind known;
  full-needs_store = λ state. refl;
  full-has_no_update = λ state. refl;
  done-needs_store = λ state. refl;
  learns = λ state. refl;
}

module _ {S : Type 0} (stored : S → DeviceStoreState) where
  -- ---- an input that is tried

  -- only the registry has changed
  attempts-changed_registry : (old new : HandlerValue S) (IsSo : Devices → Type 0) (effect : State → Effect)
      (result : Result HandlerEffect Failure) → ChangesOnlyRegistry stored old IsSo new
      → ((devices : Devices) → IsSo devices
      → AppliesOrFails (stored old.registry) (stored new.registry) devices (effect (state_of old devices)) result)
      → Attempts stored old effect result new
  attempts-changed_registry old new IsSo effect result changes applies_or_fails = grind (arith, common_steps)

  module _ (old : HandlerValue S) (new : S) where
    pub attempts-called : (effect : State → Effect) (result : Result HandlerEffect Failure)
        → ((stored new).honest → (stored old.registry).honest)
        → ((stored new).honest → (stored new).reopenable)
        → ((stored new).honest → AtMostMoreCommits 1 (stored old.registry).commits (stored new).commits)
        → ((stored new).honest → (devices : Devices) → (stored old.registry).holds devices
        → AppliesOrFails (stored old.registry) (stored new) devices (effect (state_of old devices)) result)
        → Attempts stored old effect result (record old { registry = new })
    attempts-called effect result clean reopenable commits applies_or_fails = grind (arith, common_steps)

    -- a device was looked up
    pub attempts-looked_up : (effect : State → Effect) (result : Result HandlerEffect Failure) (id : ℕ)
        (found : Result (Option Device) StoreFault) → LooksUp (stored old.registry) (stored new) id found
        → ((devices : Devices)
        → MatchResult found
        (λ device. (device ≡ device_of devices id) × Keeps (stored old.registry) (stored new) devices)
        (λ _. Keeps (stored old.registry) (stored new) devices)
        → AppliesOrFails (stored old.registry) (stored new) devices (effect (state_of old devices)) result)
        → Attempts stored old effect result (record old { registry = new })
    attempts-looked_up effect result id found looks_up applies_or_fails = grind (arith, common_steps)

  -- with no call of the registry
  pub attempts-unasked : (handler : HandlerValue S) (effect : State → Effect) (result : Result HandlerEffect Failure)
      → ((devices : Devices) → Keeps (stored handler.registry) (stored handler.registry) devices
      → AppliesOrFails (stored handler.registry) (stored handler.registry) devices (effect
      (state_of handler devices)) result)
      → Attempts stored handler effect result handler
  attempts-unasked handler effect result applies_or_fails = grind (arith, common_steps)

  -- if the effects are equal
  pub attempts-same_effect : (old new : HandlerValue S) (effect other : State
      → Effect) (result : Result HandlerEffect Failure)
      → ((devices : Devices) → effect (state_of old devices) ≡ other (state_of old devices))
      → Attempts stored old other result new → Attempts stored old effect result new
  attempts-same_effect old new effect other result same attempted = grind (arith, common_steps)

  -- after a look-up in the registry
  pub attempts-after_look_up : (handler mid new : HandlerValue S) (registry : S) (effect other : State → Effect)
      (result : Result HandlerEffect Failure) (id : ℕ) (found : Option Device)
      → mid ≡ record handler { registry = registry }
      → LooksUp {E = StoreFault} (stored handler.registry) (stored registry) id (Ok found)
      → ((devices : Devices) → found ≡ device_of devices id
      → effect (state_of handler devices) ≡ other (state_of handler devices))
      → Attempts stored mid other result new → Attempts stored handler effect result new
  attempts-after_look_up handler mid new registry effect other result id found is looks_up same tried =
      grind (arith, common_steps)

  -- an effect that changes no device
  pub applies-unchanged : (old new : S) (devices : Devices) (effect : Effect) (done : HandlerEffect)
      → effect.update ≡ None → MatchesEffect done effect → Keeps (stored old) (stored new) devices
      → AppliesOrFails (stored old) (stored new) devices effect (Ok done)
  applies-unchanged old new devices effect done none gives keeps = (gives, rw none keeps)

  -- ---- learning and forgetting a device

  -- the effect by what the handler knows then is the effect by what it knew
  MatchesEffect-before_look_up : (old new : HandlerValue S) (done : HandlerEffect) (effect : State → Effect)
      (devices : Devices)
      → new ≡ record old { registry = new.registry } → MatchesEffect done (effect (state_of new devices))
      → MatchesEffect done (effect (state_of old devices))
  MatchesEffect-before_look_up old new done effect devices same = grind (arith, common_steps)

  -- a label is committed, or the sender is unknown
  pub label-applies_or_fails : (old new : S) (devices : Devices) (id : ℕ) (label : List ℕ) (known : Bool)
      (done : HandlerEffect)
      → known ≡ is_some (get devices id)
      → MatchBool known (MatchesEffect done (relabel_effect id label)
      × Commits (stored new) (relabel_update id label) devices)
      (MatchesEffect done (lines_effect NeedsStore (Error (error.Order UnknownDevice) ∷ []))
      × Keeps (stored old) (stored new) devices)
      → AppliesOrFails (stored old) (stored new) devices
      (if_learned_else_error (device_of devices id) (λ it. relabel_effect id label)) (Ok done)
  label-applies_or_fails old new devices id label known done is applies = grind arith

  pub label-failed : (old new : S) (devices : Devices) (id : ℕ) (label : List ℕ) (fault : StoreFault)
      → MatchBool (is_some (get devices id)) (LeavesPending (stored old) (stored new) (relabel_update id label) devices)
      (Keeps (stored old) (stored new) devices)
      → AppliesOrFails (stored old) (stored new) devices
      (if_learned_else_error (device_of devices id) (λ it. relabel_effect id label))
      (Err (AtCommit fault))
  label-failed old new devices id label fault failed = grind arith

  module _ (old new : HandlerValue S) (known : Device) (effects : LearnEffects known) where
    pub attempts-learn_failed : (failure : Failure) → TriesToLearn stored old known (Err failure) new
        → Attempts stored old (learn_effect known effects) (Err failure) new
    attempts-learn_failed (BeforeCommit fault) learns = grind (arith, common_steps)
    attempts-learn_failed (AtCommit fault) learns = grind (arith, common_steps)

    pub attempts-registry_full : (made : HandlerEffect) → TriesToLearn stored old known (Ok None) new
        → ((devices : Devices) → MatchesEffect made (effects.full (state_of new devices)))
        → Attempts stored old (learn_effect known effects) (Ok made) new
    attempts-registry_full made learns gives =
        attempts-changed_registry old new _ _ _ learns.changes_only_registry
        (λ devices (is, keeps).
        rw (is, effects.full-has_no_update (state_of old devices)) (
          MatchesEffect-before_look_up old new made effects.full devices learns.changes_only_registry.same
              (gives devices),
          keeps,
        ))

    -- out of memory for the line that reports it
    pub attempts-full_unreported : (fault : StoreFault) → TriesToLearn stored old known (Ok None) new
        → Attempts stored old (learn_effect known effects) (Err (BeforeCommit fault)) new
    attempts-full_unreported fault learns = grind (arith, common_steps)

    pub attempts-learned : (committed : Verdict × List ℕ) (made : HandlerEffect)
        → TriesToLearn stored old known (Ok (Some committed)) new
        → ((devices : Devices) → MatchesEffect made (effects.done (state_of new devices)))
        → Attempts stored old (learn_effect known effects) (Ok made) new
    attempts-learned committed made learns gives =
        attempts-changed_registry old new _ _ _ learns.changes_only_registry
        (λ devices (is, commits).
        rw (is, effects.learns (state_of old devices)) (
          MatchesEffect-before_look_up old new made effects.done devices learns.changes_only_registry.same
              (gives devices),
          commits,
        ))

  -- the order of a line
  pub attempts-order : (old new : HandlerValue S) (line : List ℕ) (result : Result HandlerEffect Failure)
      (order : Result Order OrderFault) → length line ≤ max_line → order_of line ≡ order
      → Attempts stored old (λ state. order_effect state order) result new
      → Attempts stored old (λ state. line_effect state line) result new
  attempts-order old new line result order short is tried = grind (arith, common_steps)

  -- ---- an input that was tried is handled

  -- an update that is committed, if any
  holds-after_commit : (old new : S) (devices : Devices) (update : Option DeviceUpdate)
      → IsUpdateCommitted (stored old) (stored new) devices update
      → (stored new).holds (with_update devices update)
  holds-after_commit old new devices update committed = grind arith

  crash_consistent-after_commit : (old new : S) (devices : Devices) (update : Option DeviceUpdate)
      → IsUpdateCommitted (stored old) (stored new) devices update
      → (left : Devices) → (stored new).may_recover left
      → IsCrashConsistent (stored old).may_recover (after_committed_update nothing_committed_yet devices update) left
  crash_consistent-after_commit old new devices None keeps left may = inr (refl, keeps.crash left may)
  crash_consistent-after_commit old new devices (Some update) commits left may = inl (inl (commits.crash left may))

  handles-failed : (old new : HandlerValue S) (start : State) (input : Input) (cause : Cause)
      → new.base ≡ start.base → new.mode ≡ start.mode → new.counts ≡ (state_after_failure start).counts
      → MayFailFor (need_of_memory_or_store start input) cause
      → Keeps (stored old.registry) (stored new.registry) start.devices
      → HandlesFrom stored old start (input ∷ []) (failure_answer input cause ∷ []) new
  handles-failed old new start input cause base mode counts need keeps = record {
    results = Failed cause ∷ [];
    last = state_after_failure start;
    run = (need, refl, refl);
    at = (base, mode, keeps.now, counts);
    crash = λ left may. inr (refl, keeps.crash left may);
  }

  handles-failed_at_commit : (old new : HandlerValue S) (start : State) (input : Input) (cause : Cause)
      (update : Option DeviceUpdate)
      → update_of start input ≡ update → new.base ≡ start.base → new.mode ≡ start.mode
      → new.counts ≡ (state_after_failure start).counts
      → IsPending (stored old.registry) (stored new.registry) start.devices
      (need_of_memory_or_store start input) cause update
      → HandlesFrom stored old start (input ∷ []) (failure_answer input cause ∷ []) new
  handles-failed_at_commit old new start input cause None asks base mode counts (need, keeps) =
      handles-failed old new start input cause base mode counts need keeps
  handles-failed_at_commit old new start input cause (Some update) asks base mode counts pends = record {
    results = FailedAtCommit cause ∷ [];
    last = state_after_failure start;
    run = (rw asks refl, refl, refl);
    at = (base, mode, pends.now, counts);
    crash = λ left may. rw asks
        (elim (pends.crash left may) [ inl before ↦ inr (refl, before) | inr is ↦ inl (inl is) ]);
  }

  handles-applied_or_failed : (old new : HandlerValue S) (start : State) (input : Input)
      (result : Result HandlerEffect Failure)
      → new.base ≡ start.base
      → new.mode ≡ mode_from start.mode result
      → new.counts ≡ counts_from start.counts result
      → AppliesOrFails (stored old.registry) (stored new.registry) start.devices (effect start input) result
      → HandlesFrom stored old start (input ∷ []) (explained_answer_to input result ∷ []) new
  handles-applied_or_failed old new start input (Ok done) base mode counts
      ((says, counted, mode_effect), made) = record {
        results = Applied ∷ [];
        last = state_after_applied_input start input;
        run = (
          tt,
          ap (λ a. with_packet_line (packet_line_for input a) done.answer) counted
              ∙ ap (with_packet_line (packet_line_for input (effect start input).disposition)) says,
          refl,
        );
        at = (
          base,
          mode ∙ ap (with_mode start.mode) mode_effect,
          holds-after_commit old.registry new.registry start.devices (update_of start input) made,
          counts
              ∙ ap (λ a. increment_if_any start.counts (counter_in a)) counted,
        );
        crash = crash_consistent-after_commit old.registry new.registry start.devices (update_of start input) made;
      }
  handles-applied_or_failed old new start input (Err (BeforeCommit fault)) base mode counts (need, keeps) =
      handles-failed old new start input (cause_of fault) base mode counts need keeps
  handles-applied_or_failed old new start input (Err (AtCommit fault)) base mode counts pending =
      grind (arith, common_steps, handles-failed_at_commit)

  -- an input that was tried is finished: it is counted, and its mode is set
  pub handles-attempted : (old mid new : HandlerValue S) (input : Input) (result : Result HandlerEffect Failure)
      (answer : Answer)
      → answer ≡ explained_answer_to input result → new.base ≡ mid.base → new.mode ≡ mode_from mid.mode result
      → new.counts ≡ counts_from mid.counts result → new.registry ≡ mid.registry
      → Attempts stored old (λ state. effect state input) result mid
      → Handles stored old (input ∷ []) (answer ∷ []) new
  handles-attempted old mid new input result answer answer_is base mode counts registry tried =
      let over : Attempts stored old (λ state. effect state input) result (record mid { registry = new.registry }) =
      rw registry tried in
      record {
        base = base ∙ over.base;
        clean = over.clean;
        reopenable = over.reopenable;
        commits = over.commits;
        ran_from_any = λ honest start at.
            let known : state_of old start.devices ≡ start = rw (at.0, at.1, at.3) in
            let applies_or_fails = rw known at (over.applies_or_fails honest start.devices at.2) in
            rw answer_is
            (handles-applied_or_failed old new start input result (base ∙ tried.base ∙ at.0)
            (mode ∙ ap (λ m. mode_from m result) (tried.mode ∙ at.1))
            (counts ∙ ap (λ c. counts_from c result) (tried.counts ∙ at.3)) applies_or_fails);
      }

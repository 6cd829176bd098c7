-- What teach lines report, and that updates are reported.
use Rattle.std.proofs.Common.{◌≡◌, ◌⊎◌, inl, inr, ℕ, Bool, true, false, IsSome, List, [], ◌∷◌, length, Option, Some}
use Rattle.std.proofs.Common.{None, Ok, refl, sym, ap, ◌∙◌, append-nil, arith, ◌≢◌, rules}
use Rattle.std.specs.Prelude.{unwrap_or, nat_lt, slice_index_or, if◌then◌else◌}
use Rattle.std.proofs.lemmas.Bool.{le-ltb}
use Rattle.learned_devices.specs.declared.Device.{Device}
use Rattle.learned_devices.specs.Devices.{DeviceUpdate, device_of, relabel_update}
use Rattle.teach_in.specs.declared.outcome.Outcome.{Outcome}
use Rattle.teach_in.specs.declared.outcome.Outcome.TheVariants.{Accepted, Deleted}
use Rattle.teach_in.specs.Telegrams.{teach_in_of}
use Rattle.desk_orders.specs.Limits.{max_line}
use Rattle.desk_orders.specs.declared.orders.Order.TheVariants.{Label}
use Rattle.desk_orders.specs.declared.orders.OrderFault.TheVariants.{UnknownDevice}
use Rattle.desk_orders.specs.Orders.{order_of}
use Rattle.learned_devices.specs.Faults.{out_of_memory, store_failed}
use Rattle.gateway_state.specs.declared.error_reason.ErrorReason.TheVariants as error
use Rattle.json_lines.specs.Lines.{Teach, Done, Error, TeachLine, text, texts}
use Rattle.json_lines.proofs.ForCallers.{of_teach_lines}
use Rattle.gateway_core.specs.Step.{State, Received, Ordered, Effect, device_teach_line, query_teach_line}
use Rattle.gateway_core.specs.Step.{relabel_effect, if_learned_else_error, error_effect, update_of, Cause, Memory}
use Rattle.gateway_core.specs.Step.{Store, Input, effect, teach_report_effect}
use Rattle.gateway_core.specs.Run.{InputResult, Applied, Failed, FailedAtCommit, failure_text, answer_for_result}
use Rattle.gateway_core.specs.Reporting.{IsDeviceOfDeletedLine, OutcomeMatchesUpdate, UpdatesAreReported}
use Rattle.gateway_core.specs.Reporting.{AnswersToLabelsAreTrue, TeachLinesAreTrue}
use Rattle.gateway_core.proofs.EffectLemmas.{IsRefusal, of_packet, of_line}

-- ---- teach lines

-- the text of a failure is not that of a teach line
failure_text-no_teach_line : (cause : Cause) (line : TeachLine) → failure_text cause ≡ text (Teach line) → ⊥
failure_text-no_teach_line Memory line says =
    let found = of_teach_lines (Error (error.Failed out_of_memory) ∷ []) line (append-nil _ ∙ says) in
    absurd (let is = found.1 in cc)
failure_text-no_teach_line Store line says =
    let found = of_teach_lines (Error (error.Failed store_failed) ∷ []) line (append-nil _ ∙ says) in
    absurd (let is = found.1 in cc)

-- what is rejected changes nothing
refusal-changes_nothing : (Gone : Device → Type 0) (e : Effect) (line : TeachLine) (outcome : Outcome)
    → IsRefusal outcome
    → e.update ≡ None → e.mode ≡ None → OutcomeMatchesUpdate Gone e line outcome
refusal-changes_nothing Gone e line Accepted is update mode = absurd is
refusal-changes_nothing Gone e line Deleted is update mode = absurd is
refusal-changes_nothing Gone e line outcome is update mode = (update, mode)

-- what a line reports, each line with the same text and outcome reports
same-text-matches : (Gone : Device → Type 0) (e : Effect) (line other : TeachLine) (outcome : Outcome)
    → text (Teach line) ≡ text (Teach other) → OutcomeMatchesUpdate Gone e line outcome
    → OutcomeMatchesUpdate Gone e other outcome
same-text-matches Gone e line other Accepted same (known, is, asks) = (known, sym same ∙ is, asks)
same-text-matches Gone e line other Deleted same (known, is, gone, asks) = (known, sym same ∙ is, gone, asks)
same-text-matches Gone e line other outcome same stays = stays

-- a label that an order gives to a learned device, and its answer
abbrev RelabelsByOrder : State → Input → Effect → DeviceUpdate → Type 0
RelabelsByOrder state input e update =
    (line : List ℕ) × (input ≡ Ordered line) × (id : ℕ) × (label : List ℕ) × (order_of line ≡ Ok (Label id label))
    × IsSome (device_of state.devices id) × (update ≡ relabel_update id label) × (e.desk ≡ Done ∷ [])

-- an effect without a teach line updates only a label; otherwise its one line reports its update
abbrev Reports : State → Input → Effect → Type 0
Reports state input e =
    (((line : TeachLine) → e.desk ≢ Teach line ∷ [])
    × ((update : DeviceUpdate) → e.update ≡ Some update → RelabelsByOrder state input e update))
    ⊎ ((line : TeachLine) × (e.desk ≡ Teach line ∷ [])
    × OutcomeMatchesUpdate (IsDeviceOfDeletedLine state input) e line line.outcome)

effect-reports : (state : State) (input : Input) → Reports state input (effect state input)
effect-reports state (Received packet) =
    of_packet (Reports state (Received packet)) state packet (record {
      telegrams = λ t carried. record {
        ignores = λ asked disposition is. inl (search rules);
        reads = λ known line. inl (search rules);
        learns = λ hears eep maker learned planned.
            let known : Device = record { id = t.sender; eep = eep; maker = maker; label = [] } in
            inr (device_teach_line known Accepted, refl, (known, refl, refl));
        forgets = λ learning (query, asked, wants).
            let known : Device = record { id = t.sender; eep = query.eep; maker = Some query.maker; label = [] } in
            inr (
              query_teach_line t.sender (teach_in_of t) Deleted,
              refl,
              (
                known,
                ap (λ kind. text (Teach (query_teach_line t.sender kind Deleted))) asked,
                (t, carried, refl, query, asked, wants, refl, refl),
                refl,
              ),
            );
        refuses = λ hears need line is. inr (
          line,
          refl,
          refusal-changes_nothing _
              (record (teach_report_effect state (teach_in_of t) line) { need = need }) line line.outcome is refl refl,
        );
      };
      ignores = λ disposition is. inl (search rules);
      responds = λ response. inl (search rules);
    })
effect-reports state (Ordered line) =
    of_line (Reports state (Ordered line)) state line (record {
      answers = λ need lines no_teach_line. inl (no_teach_line, λ update asks. absurd cc);
      opens = λ mode is. inl (search rules);
      sends = λ asked order packet spelled is. inl (search rules);
      learns = λ known spelled. inr (device_teach_line known Accepted, refl, (known, refl, refl));
      forgets = λ known has. inr (device_teach_line known Deleted, refl, (known, refl, has, refl));
      relabels = λ id label spelled known. inl (
        λ teach is. absurd cc,
        λ update asks.
            (line, refl, id, label, spelled, known, ap (λ o. unwrap_or o update) (sym asks), refl),
      );
    })

pub teach_lines_are_true : TeachLinesAreTrue
teach_lines_are_true state input Applied line says =
    let (found, is_found, outcome) = of_teach_lines (effect state input).desk line says in
    elim (effect-reports state input) [
      | inl (none, labels) ↦ absurd (none found is_found)
      | inr (reported, desk, matches) ↦
          let same : reported.outcome ≡ line.outcome = (let is = sym desk ∙ is_found in cc) in (
            refl,
            rw same at (same-text-matches _ (effect state input) reported line reported.outcome
                (sym (ap texts desk ∙ append-nil _) ∙ says) matches),
          )
    ]
teach_lines_are_true state input (Failed cause) line says = absurd (failure_text-no_teach_line cause line says)
teach_lines_are_true state input (FailedAtCommit cause) line says = absurd (failure_text-no_teach_line cause line says)

pub updates_are_reported : UpdatesAreReported
updates_are_reported state input update asks =
    elim (effect-reports state input) [
      | inl (none, labels) ↦
          let (line, ordered, id, label, spelled, known, gives, desk) = labels update asks in inr (record {
            line = line;
            ordered = ordered;
            id = id;
            label = label;
            spelled = spelled;
            is_known = known;
            gives = gives;
            reported = ap texts desk ∙ append-nil _;
          })
      | inr (line, desk, matches) ↦ inl (line, ap texts desk ∙ append-nil _, matches)
    ]

-- ---- a label

-- the byte that distinguishes the answers to a label
abbrev tenth : List ℕ → ℕ
tenth text = slice_index_or text 10 0

-- the effect of a line that spells a label, if it is too long, and if not
abbrev label_effect : (id : ℕ) (label : List ℕ) (long : Bool) → Option Device → Effect
label_effect id label long known =
    if long then error_effect error.TooLong else if_learned_else_error known (λ device. relabel_effect id label)

label-done : (id : ℕ) (label : List ℕ) (long : Bool) (known : Option Device)
    → texts (label_effect id label long known).desk ≡ text Done
    → IsSome known × ((label_effect id label long known).update ≡ Some (relabel_update id label))
label-done id label false (Some device) says = (refl, refl)
label-done id label false None says = absurd (omega (arith, ap tenth says))
label-done id label true known says = absurd (omega (arith, ap tenth says))

label-unknown : (id : ℕ) (label : List ℕ) (long : Bool) (known : Option Device)
    → texts (label_effect id label long known).desk ≡ text (Error (error.Order UnknownDevice))
    → (known ≡ None) × ((label_effect id label long known).update ≡ None)
label-unknown id label false None says = (refl, refl)
label-unknown id label false (Some device) says = absurd (omega (arith, ap tenth says))
label-unknown id label true known says = absurd (omega (arith, ap tenth says))

label-answers : (id : ℕ) (label : List ℕ) (known : Option Device) → let e = label_effect id label false known in
    (texts e.desk ≡ text Done) ⊎ (texts e.desk ≡ text (Error (error.Order UnknownDevice)))
label-answers id label None = inr (append-nil _)
label-answers id label (Some device) = inl (append-nil _)

failure_text-tenth_byte : (cause : Cause) → (tenth (failure_text cause) ≢ tenth (text Done))
    × (tenth (failure_text cause) ≢ tenth (text (Error (error.Order UnknownDevice))))
failure_text-tenth_byte Memory = (omega arith, omega arith)
failure_text-tenth_byte Store = (omega arith, omega arith)

pub answers_to_labels_are_true : AnswersToLabelsAreTrue
answers_to_labels_are_true state line id label spelled = record {
  done = done;
  unknown = unknown;
  answers = λ short. rw (spelled, le-ltb max_line (length line) short)
      (label-answers id label (device_of state.devices id));
}
  where
    done : (result : InputResult) → (answer_for_result state (Ordered line) result).desk ≡ text Done
        → (result ≡ Applied) × IsSome (device_of state.devices id)
        × (update_of state (Ordered line) ≡ Some (relabel_update id label))
    done Applied says =
        let both = label-done id label (nat_lt max_line (length line)) (device_of state.devices id)
        (rw spelled at says) in
        rw (spelled, update_of) (refl, both.0, both.1)
    done (Failed cause) says = absurd ((failure_text-tenth_byte cause).0 (ap tenth says))
    done (FailedAtCommit cause) says = absurd ((failure_text-tenth_byte cause).0 (ap tenth says))

    unknown : (result : InputResult) → (answer_for_result state (Ordered line) result).desk
        ≡ text (Error (error.Order UnknownDevice))
        → (result ≡ Applied) × (device_of state.devices id ≡ None) × (update_of state (Ordered line) ≡ None)
    unknown Applied says =
        let both = label-unknown id label (nat_lt max_line (length line)) (device_of state.devices id)
        (rw spelled at says) in
        rw (spelled, update_of) (refl, both.0, both.1)
    unknown (Failed cause) says = absurd ((failure_text-tenth_byte cause).1 (ap tenth says))
    unknown (FailedAtCommit cause) says = absurd ((failure_text-tenth_byte cause).1 (ap tenth says))

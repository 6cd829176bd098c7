-- The lines that explain packets are true.
use Rattle.std.proofs.lemmas.Grind.{common_steps}
use Rattle.std.proofs.Common.{◌≡◌, ◌≢◌, ℕ, Bool, true, false, List, [], ◌∷◌, Option, Some, None, refl, ap, ◌∙◌, arith}
use Rattle.std.proofs.Common.{eqb-true, Result, Ok, Err}
use Rattle.std.specs.Prelude.{◌==◌}
use Rattle.std.proofs.lemmas.Bool.{eqb-false}
use Rattle.esp3_frames.specs.Packet.{Packet}
use Rattle.erp1_telegrams.specs.declared.eep.Eep.{Eep}
use Rattle.erp1_telegrams.specs.declared.telegram.TelegramFault.{TelegramFault}
use Rattle.erp1_telegrams.specs.Address.{filter_reason, is_filtered_out}
use Rattle.erp1_telegrams.specs.Telegram.{Telegram, telegram_of}
use Rattle.profile_rows.specs.Reading.{Entry}
use Rattle.profile_rows.specs.declared.unreadable.Unreadable.{Unreadable}
use Rattle.learned_devices.specs.declared.Device.{Device}
use Rattle.learned_devices.specs.Devices.{device_of, is_full_for}
use Rattle.teach_in.specs.declared.ute.UteQuery.{UteQuery}
use Rattle.teach_in.specs.declared.mode.Mode.{Mode}
use Rattle.teach_in.specs.declared.mode.Mode.TheVariants as mode
use Rattle.teach_in.specs.declared.outcome.Outcome.{Outcome}
use Rattle.teach_in.specs.declared.outcome.Outcome.TheVariants.{Unsupported, General, NoProfile}
use Rattle.teach_in.specs.declared.plans.Plan.TheVariants.{Silent, Refuse}
use Rattle.teach_in.specs.declared.telegrams.Teach.{Teach}
use Rattle.teach_in.specs.declared.telegrams.Teach.TheVariants as teach
use Rattle.teach_in.specs.Profiles.{supported}
use Rattle.teach_in.specs.Telegrams.{teach_in_of}
use Rattle.teach_in.specs.Plans.{ute_plan, plan_in_mode, plan_of, plan_row_of}
use Rattle.teach_in.specs.Ute.{request_in, unused_request}
use Rattle.teach_in.proofs.ForCallers.{LearnsByTeachIn, hears-open, of_plan, Hears}
use Rattle.gateway_state.specs.declared.handling_reason.HandlingReason.TheVariants as why
use Rattle.gateway_core.specs.declared.disposition.Disposition.{Disposition}
use Rattle.gateway_core.specs.Dispositions.{without_device, eep_in_query, packet_text_if_any, packet_line_of}
use Rattle.gateway_core.specs.Dispositions.{shown_packet, why_nothing_done}
use Rattle.gateway_core.specs.Profiles.{read_by}
use Rattle.gateway_core.specs.Responses.{response_from, response_in}
use Rattle.gateway_core.specs.Explaining.{RorgDoesNotFitTeachIn, ExplanationsAreTrue, IsNotFilteredOut, IsDataOf}
use Rattle.gateway_core.specs.Explaining.{WhyIsTrue, IsTeachInRequest, IsPlanned, Shows}
use Rattle.gateway_core.specs.Step.{State, Effect, case_effect, case_of, data_case, case_by_role, non_telegram_effect}
use Rattle.gateway_core.specs.Step.{packet_effect_from, packet_effect, plan_effect, is_learned, reading_effect}
use Rattle.gateway_core.specs.Step.{silent_effect}
use Rattle.std.specs.Option.{option_map}
use Rattle.std.proofs.lemmas.Bool.Decides.{nat_tests}
use Rattle.gateway_core.proofs.EffectLemmas.{if-either}
use Rattle.gateway_core.proofs.WindowLemmas.{IsOpen-not_closed}
use Rattle.profile_rows.specs.declared.unreadable.Unreadable.TheVariants as unreadable

-- if the effect is that of the packet, its disposition is true
abbrev Truth : State → Packet → Effect → Type 0
Truth state packet e =
    (packet_effect state packet).update ≡ e.update
    → (disposition : Disposition) × (e.disposition ≡ Some disposition)
    × WhyIsTrue state packet disposition disposition.why

-- ---- a packet without a telegram

module _ (state : State) (packet : Packet) (fault : TelegramFault) (none : telegram_of packet ≡ Err fault) where
  -- it is no response
  of-no_response : (packet.kind ≡ 2 → packet.body ≡ []) → Truth state packet (non_telegram_effect packet None)
  of-no_response empty update = (_, refl, grind (arith, nat_tests))

  -- it is a response, or it is none
  of-response : Truth state packet (non_telegram_effect packet (response_in packet))
  of-response =
      if-either (λ response. Truth state packet (non_telegram_effect packet response)) (packet.kind == 2) _ _
      (λ two. of-body packet.body refl (eqb-true packet.kind 2 two))
      (λ not_two. of-no_response (λ two. absurd (eqb-false packet.kind 2 not_two two)))
    where
      of-body : (body : List ℕ) → packet.body ≡ body → packet.kind ≡ 2
          → Truth state packet (non_telegram_effect packet (response_from body))
      of-body [] is kind = of-no_response (λ two. is)
      of-body (code ∷ bytes) is kind = λ update. (_, refl, (kind, rw is (omega arith), (refl, refl)))

-- ---- the meaning of a plan

-- why a sender is rejected
abbrev RefusalMeans : Teach → Outcome → Type 0
RefusalMeans kind Unsupported = (eep : Eep) × (eep_in_query kind ≡ Some eep) × (supported eep ≡ false)
RefusalMeans kind General = (query : UteQuery) × (kind ≡ teach.Ute query) × (request_in query ≡ unused_request)
RefusalMeans kind NoProfile = kind ≡ teach.Bare
RefusalMeans kind outcome = ⊥

module _ (t : Telegram) (known : Bool) where
  ute-means : (query : UteQuery) (outcome : Outcome) → ute_plan t query ≡ Refuse outcome
      → RefusalMeans (teach.Ute query) outcome
  ute-means query outcome refuses = grind (arith, nat_tests)

  own_plan-means : (kind : Teach) (outcome : Outcome) → (plan_row_of t known kind).by_own_profile ≡ Refuse outcome
      → RefusalMeans kind outcome
  own_plan-means teach.Bare outcome refuses = let same : NoProfile ≡ outcome = cc in rw (← same) refl
  own_plan-means (teach.FourByte query) outcome refuses = grind (arith, common_steps)
  own_plan-means (teach.Ute query) outcome refuses = ute-means query outcome refuses
  own_plan-means kind outcome refuses = absurd cc

  desk_plan-never_refuses : (kind : Teach) (eep : Eep) (outcome : Outcome)
      → (plan_row_of t known kind).by_desk_profile eep ≢ Refuse outcome
  desk_plan-never_refuses kind eep outcome refuses = grind arith

  refuse-means : (kind : Teach) (mode : Mode) (outcome : Outcome)
      → plan_in_mode (plan_row_of t known kind) mode ≡ Refuse outcome → RefusalMeans kind outcome
  refuse-means kind mode.Closed outcome refuses = absurd cc
  refuse-means kind (mode.LearnAs eep) outcome refuses = absurd (desk_plan-never_refuses kind eep outcome refuses)
  refuse-means kind mode outcome refuses = own_plan-means kind outcome refuses

  -- in a window for all senders there is a plan for each teach-in telegram
  speaks : (kind : Teach) → IsTeachInRequest kind → (plan_row_of t known kind).by_own_profile ≢ Silent
  speaks kind is silent = grind arith

  -- in the mode for one sender there is no plan if the desk's profile does not fit
  silent-rorg_differs : (kind : Teach) (eep : Eep) → IsTeachInRequest kind
      → (plan_row_of t known kind).by_desk_profile eep ≡ Silent → RorgDoesNotFitTeachIn eep kind
  silent-rorg_differs kind eep is silent = grind (arith, nat_tests)

-- ---- a telegram

learning-not-closed : (now : Mode) → LearnsByTeachIn now → now ≢ mode.Closed
learning-not-closed now learning closed = grind arith

module _ (state : State) (packet : Packet) (t : Telegram) (carried : telegram_of packet ≡ Ok t) where
  of-filtered : is_filtered_out state.base t ≡ true
      → Truth state packet (silent_effect false (without_device (why.FilteredOut (filter_reason t))))
  of-filtered filtered update = (_, refl, grind (arith, nat_tests))

  module _ (heard : IsNotFilteredOut state packet t) where
    refused : (outcome : Outcome) → RefusalMeans (teach_in_of t) outcome → state.mode ≢ mode.Closed
        → IsPlanned state t (Refuse outcome) → (packet_effect state packet).update ≡ None
        → WhyIsTrue state packet (without_device (why.TeachIn outcome)) (why.TeachIn outcome)
    refused outcome means opened planned update = grind arith

    of-planned : (asked known : Bool) → is_learned state.devices t.sender ≡ known
        → (plan_of t state.mode known ≡ Silent → Truth state packet (plan_effect state t asked Silent))
        → Truth state packet (plan_effect state t asked (plan_of t state.mode known))
    of-planned asked known same silent =
        let planned : IsPlanned state t (plan_of t state.mode known) = ap (plan_of t state.mode) same in
        let opened = λ (hears : Hears state.mode (teach_in_of t)).
        IsOpen-not_closed state.mode (hears-open state.mode (teach_in_of t) hears) in
        of_plan (λ plan. plan_of t state.mode known ≡ plan → Truth state packet (plan_effect state t asked plan)) t
        state.mode known (record {
          silent = silent;
          adds = λ hears eep maker is.
              let device : Device = record { id = t.sender; eep = eep; maker = maker; label = [] } in
              if-either (Truth state packet) (is_full_for state.devices t.sender) _ _
              (λ full update. (
                _,
                refl,
                (t, device, heard, refl, opened hears, planned ∙ is, full, update, (refl, refl)),
              ))
              (λ room update. (_, refl, (t, device, heard, refl, opened hears, planned ∙ is, update, (refl, refl))));
          forgets = λ learning (query, asked, wants) is update. (
            _,
            refl,
            (
              t,
              query,
              heard,
              learning-not-closed state.mode learning,
              asked,
              wants,
              planned ∙ is,
              update,
              (refl, refl),
            ),
          );
          refuses = λ hears outcome cause is update. (
            _,
            refl,
            refused outcome
                (refuse-means t known (teach_in_of t) state.mode outcome is) (opened hears) (planned ∙ is) update,
          );
        }) refl

    -- teach-in telegrams
    of-teach_in : IsTeachInRequest (teach_in_of t)
        → Truth state packet (plan_effect state t false (plan_of t state.mode (is_learned state.devices t.sender)))
    of-teach_in teaches = of-planned false known refl (by_mode state.mode refl)
      where
        known : Bool
        known = is_learned state.devices t.sender

        by_mode : (mode : Mode) → state.mode ≡ mode → plan_in_mode (plan_row_of t known (teach_in_of t)) mode ≡ Silent
            → Truth state packet (silent_effect false (without_device (why_nothing_done false mode)))
        by_mode mode.Closed is silent update = (_, refl, (t, heard, teaches, is, (refl, refl)))
        by_mode (mode.LearnAs eep) is silent update = (
          _,
          refl,
          (t, heard, teaches, (eep, is, silent-rorg_differs t known (teach_in_of t) eep teaches silent), (refl, refl)),
        )
        by_mode mode is silent update = absurd (speaks t known (teach_in_of t) teaches silent)

    -- data
    of-reading : (known : Device) → IsDataOf state packet t known → (readings : Result (List Entry) Unreadable)
        → read_by known.eep t ≡ readings → Truth state packet (reading_effect t known readings)
    of-reading known of (Ok readings) is update = (_, refl, (t, known, readings, of, is, (refl, refl)))
    of-reading known of (Err unreadable.NotSupported) is update = grind (arith, common_steps)
    of-reading known of (Err unreadable.OtherMessage) is update = grind (arith, common_steps)
    of-reading known of (Err fault) is update = (_, refl, (t, known, _, of, is, refl, (refl, refl)))

    of-data : (known : Option Device) → teach_in_of t ≡ teach.Plain → device_of state.devices t.sender ≡ known
        → Truth state packet (case_effect state t (data_case known))
    of-data None plain is = grind (arith, common_steps, of-planned)
    of-data (Some known) plain is = grind (arith, common_steps, of-reading)

    of-kind : (kind : Teach) → teach_in_of t ≡ kind
        → Truth state packet (case_effect state t (case_by_role kind (device_of state.devices t.sender)))
    of-kind teach.Answer is = λ update. (_, refl, (t, heard, is, (refl, refl)))
    of-kind teach.Plain is = of-data (device_of state.devices t.sender) is refl
    of-kind kind is = of-teach_in (rw is tt)

  of-telegram : Truth state packet (case_effect state t (case_of state t))
  of-telegram =
      if-either (λ case. Truth state packet (case_effect state t case)) (is_filtered_out state.base t) _ _ of-filtered
      (λ is. of-kind (record { carried = carried; not_filtered_out = is }) (teach_in_of t) refl)

-- ---- each packet

of-packet : (state : State) (packet : Packet) (telegram : Result Telegram TelegramFault)
    → telegram_of packet ≡ telegram → Truth state packet (packet_effect_from state packet telegram)
of-packet state packet (Ok t) is = of-telegram state packet t is
of-packet state packet (Err fault) is = of-response state packet fault is

-- ---- the line

shows : (packet : Packet) (disposition : Disposition) (carried : Result Telegram TelegramFault)
    → telegram_of packet ≡ carried
    → Shows packet disposition (shown_packet packet carried disposition)
shows packet disposition carried is = grind (arith, common_steps, common_steps)

pub explanations_are_true : ExplanationsAreTrue
explanations_are_true state packet =
    let (disposition, is, means) = of-packet state packet (telegram_of packet) refl refl in
    record {
      disposition = disposition;
      line = packet_line_of packet disposition;
      explanation = ap (λ o. packet_text_if_any (option_map (packet_line_of packet) o)) is;
      same_why = refl;
      shows = shows packet disposition (telegram_of packet) refl;
      why_is_true = means;
    }

-- Packets change the devices only in an open window.
use Rattle.std.proofs.Common.{◌≡◌, ◌≢◌, ◌⊎◌, inl, inr, [], Some, None, refl, sym, ap, ◌∙◌}
use Rattle.erp1_telegrams.specs.declared.eep.Eep.{Eep}
use Rattle.teach_in.specs.declared.mode.Mode.{Mode}
use Rattle.teach_in.specs.declared.mode.Mode.TheVariants.{Closed, LearnAs}
use Rattle.teach_in.specs.Telegrams.{teach_in_of}
use Rattle.teach_in.proofs.ForCallers.{IsOpen, hears-open}
use Rattle.gateway_core.specs.Step.{Effect, packet_effect, mode_set_by_learning}
use Rattle.gateway_core.specs.Windows.{LearnsSender, ForgetsSender, PacketsLearnOnlyInWindows}
use Rattle.gateway_core.proofs.EffectLemmas.{of_packet}

pub IsOpen-not_closed : (mode : Mode) → IsOpen mode → mode ≢ Closed
IsOpen-not_closed mode is_open closed = rw closed at is_open

-- only the mode for one sender is closed
closing_mode-is_for_one : (now mode : Mode) → mode_set_by_learning now ≡ Some mode → (eep : Eep) × (now ≡ LearnAs eep)
closing_mode-is_for_one (LearnAs eep) mode set = (eep, refl)
closing_mode-is_for_one now mode set = absurd cc

pub packets_learn_only_in_windows : PacketsLearnOnlyInWindows
packets_learn_only_in_windows state packet =
    of_packet (λ e. packet_effect state packet ≡ e
    → LearnsSender state packet ⊎ (ForgetsSender state packet ⊎ ((packet_effect state packet).update ≡ None)
    × ((packet_effect state packet).mode ≡ None))) state packet (record {
      telegrams = λ t carried. record {
        ignores = λ asked disposition is. stays;
        reads = λ known line. stays;
        learns = λ hears eep maker known planned is.
            let closes = ap (λ (e : Effect). e.mode) is in
            inl (record {
              telegram = t;
              carried = carried;
              device = record { id = t.sender; eep = eep; maker = maker; label = [] };
              is_sender = refl;
              update = ap (λ (e : Effect). e.update) is;
              window_open = IsOpen-not_closed state.mode (hears-open state.mode (teach_in_of t) hears);
              ute_needs_window_for_all = λ query asked. rw asked at hears;
              closes = λ eep mode. closes ∙ ap mode_set_by_learning mode;
              stays = λ mode set. closing_mode-is_for_one state.mode mode (sym closes ∙ set);
            });
        forgets = λ learning (query, asked, deletes) is. inr (inl (record {
          telegram = t;
          carried = carried;
          query = query;
          asked = asked;
          deletes = deletes;
          update = ap (λ (e : Effect). e.update) is;
          open_for_all = learning;
          stays = ap (λ (e : Effect). e.mode) is;
        }));
        refuses = λ hears need line is. stays;
      };
      ignores = λ disposition is. stays;
      responds = λ response. stays;
    }) refl
  where
    stays : {X Y : Type 0} {e : Effect} → packet_effect state packet ≡ e
        → X ⊎ (Y ⊎ ((packet_effect state packet).update ≡ e.update) × ((packet_effect state packet).mode ≡ e.mode))
    stays is = inr (inr (ap (λ (e : Effect). e.update) is, ap (λ (e : Effect). e.mode) is))

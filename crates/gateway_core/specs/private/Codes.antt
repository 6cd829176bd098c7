-- Codes of values in contracts, in the form that the checker needs for a type that contains another.
use Rattle.std.specs.Prelude.{◌≡◌, ℕ, List, Option, Some, None, refl}
use Rattle.std.specs.Coded.{Coded, code_by, coded×, coded_list, coded_option, coded_ℕ}
use Rattle.erp1_telegrams.specs.declared.eep.Eep.{Eep}
use Rattle.teach_in.specs.declared.mode.Mode.{Mode}
use Rattle.teach_in.specs.declared.mode.Mode.TheVariants.{Closed, Learn, LearnAnswer, LearnAs}
use Rattle.gateway_state.specs.declared.counts.Counts.{Counts}
use Rattle.esp3_frames.specs.Packet.{Packet}
use Rattle.gateway_core.specs.Handling.{HandlerValue}
use Rattle.gateway_core.specs.Calls.{GatewayValue}

abbrev counts_code : Coded Counts
counts_code =
    code_by (ℕ × (ℕ × (ℕ × (ℕ × ℕ))))
    (coded× coded_ℕ (coded× coded_ℕ (coded× coded_ℕ (coded× coded_ℕ coded_ℕ))))
    (λ c. (c.ignored, (c.readings, (c.refused, (c.responses, c.teach)))))
    (λ p. record { ignored = p.0; readings = p.1.0; refused = p.1.1.0; responses = p.1.1.1.0; teach = p.1.1.1.1 })
    (λ _. refl)

abbrev eep_code : Coded Eep
eep_code =
    code_by (ℕ × (ℕ × ℕ)) (coded× coded_ℕ (coded× coded_ℕ coded_ℕ)) (λ e. (e.rorg, (e.func, e.typ)))
    (λ p. record { rorg = p.0; func = p.1.0; typ = p.1.1 }) (λ _. refl)

abbrev as_option : Mode → Option (Option (Option Eep))
as_option Closed = None
as_option Learn = Some None
as_option LearnAnswer = Some (Some None)
as_option (LearnAs eep) = Some (Some (Some eep))

abbrev as_mode : Option (Option (Option Eep)) → Mode
as_mode None = Closed
as_mode (Some None) = Learn
as_mode (Some (Some None)) = LearnAnswer
as_mode (Some (Some (Some eep))) = LearnAs eep

pub mode_back : (mode : Mode) → as_mode (as_option mode) ≡ mode
mode_back Closed = refl
mode_back Learn = refl
mode_back LearnAnswer = refl
mode_back (LearnAs eep) = refl

abbrev mode_code : Coded Mode
mode_code =
    code_by (Option (Option (Option Eep))) (coded_option (coded_option (coded_option eep_code))) as_option as_mode
    mode_back

abbrev pub handler_code : {S : Type 0} → Coded S → Coded (HandlerValue S)
handler_code {S} devices =
    code_by (ℕ × (Mode × (Counts × S)))
    (coded× coded_ℕ (coded× mode_code (coded× counts_code devices)))
    (λ v. (v.base, (v.mode, (v.counts, v.registry))))
    (λ p. record { base = p.0; mode = p.1.0; counts = p.1.1.0; registry = p.1.1.1 }) (λ _. refl)

abbrev packet_code : Coded Packet
packet_code =
    code_by (ℕ × (List ℕ × List ℕ)) (coded× coded_ℕ (coded× (coded_list coded_ℕ) (coded_list coded_ℕ)))
    (λ p. (p.kind, (p.body, p.opt)))
    (λ p. record { kind = p.0; body = p.1.0; opt = p.1.1 }) (λ _. refl)

abbrev pub gateway_code : {S : Type 0} → Coded S → Coded (GatewayValue S)
gateway_code {S} devices =
    code_by (HandlerValue S × (List Packet × List ℕ))
    (coded× (handler_code devices) (coded× (coded_list packet_code) (coded_list coded_ℕ)))
    (λ v. (v.handler, (v.ready, v.rest)))
    (λ p. record { handler = p.0; ready = p.1.0; rest = p.1.1 }) (λ _. refl)

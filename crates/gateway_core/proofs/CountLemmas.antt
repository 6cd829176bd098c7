-- What is counted.
use Rattle.std.proofs.Common.{◌≡◌, IsSome, ℕ, ◌+◌, [], ◌∷◌, Some, None, refl, ap, ◌∙◌, arith, append-nil, rules}
use Rattle.std.specs.Option.{option_map}
use Rattle.esp3_frames.specs.Packet.{Packet}
use Rattle.gateway_state.specs.declared.counts.Counter.TheVariants as count
use Rattle.gateway_state.specs.Counts.{saturated_sum, saturated_increment, increment_if_any}
use Rattle.gateway_state.specs.declared.handling_reason.HandlingReason.{HandlingReason}
use Rattle.gateway_state.specs.declared.handling_reason.HandlingReason.TheVariants as why
use Rattle.json_lines.specs.Lines.{Teach, TeachLine, texts}
use Rattle.gateway_core.specs.declared.disposition.Disposition.{Disposition}
use Rattle.gateway_core.specs.Dispositions.{without_device, counter_for, packet_text_if_any, packet_line_of}
use Rattle.gateway_core.specs.Counting.{AppliedPacketsAreCounted, IsExplained, ExplanationsAreCounted, MatchesDeskLines}
use Rattle.gateway_core.specs.Step.{State, Input, counter_in, counter_for_applied_input, packet_effect, Effect}
use Rattle.gateway_core.specs.Run.{InputResult, Applied, state_after_result, failure_count, FailuresAreCounted}
use Rattle.gateway_core.proofs.EffectLemmas.{of_packet, of_line, of_effect}
use Rattle.json_lines.proofs.ForCallers.{of_teach_lines}

pub saturated_sum-twice : (a b c n m : ℕ) → b ≡ saturated_sum a n → c ≡ saturated_sum b m → c ≡ saturated_sum a (n + m)
saturated_sum-twice a b c n m is on = omega (arith, is, on)

-- an applied input is not counted as failed
applied-not_counted_as_failed : (state : State) (input : Input)
    → (increment_if_any state.counts (counter_for_applied_input state input)).refused ≡ state.counts.refused
applied-not_counted_as_failed state =
    of_effect (λ e. (increment_if_any state.counts (counter_in e.disposition)).refused ≡ state.counts.refused) state
    (λ packet. search rules) (λ line. search rules)

pub applied_packets_are_counted : AppliedPacketsAreCounted
applied_packets_are_counted = record {
  packets = λ state packet. of_packet (λ e. IsSome (counter_in e.disposition)) state packet (search rules);
  teach_line_is_counted = λ state packet line answered.
      of_packet (λ e. (found : TeachLine) → e.desk ≡ Teach found ∷ [] → counter_in e.disposition ≡ Some count.TeachLine)
      state packet (search rules) _ (of_teach_lines (packet_effect state packet).desk line answered).1;
  counted_has_teach_line = λ state packet counted.
      let (line, is) =
      of_packet (λ e. counter_in e.disposition ≡ Some count.TeachLine → (line : TeachLine) × (e.desk ≡ Teach line ∷ []))
      state packet (search rules) counted in
      (line, ap texts is ∙ append-nil _);
  lines = λ state line. of_line (λ e. counter_in e.disposition ≡ None) state line (search rules);
}

-- ---- the line that explains a packet

-- with a word that counts as ignored, the desk receives no other line
ignored-writes_no_line : (why : HandlingReason) → counter_for why ≡ count.Ignored → MatchesDeskLines why []
ignored-writes_no_line why.Failed is = absurd cc
ignored-writes_no_line why.Response is = absurd cc
ignored-writes_no_line (why.TeachIn outcome) is = absurd cc
ignored-writes_no_line why.Read is = absurd cc
ignored-writes_no_line why is = refl

-- an applied packet has a disposition, whose word is that of what the desk receives
abbrev HasAccount : Effect → Type 0
HasAccount e =
    (disposition : Disposition) × (e.disposition ≡ Some disposition) × MatchesDeskLines disposition.why e.desk

explained : (state : State) (packet : Packet) (result : InputResult) → IsExplained state packet result
explained state packet Applied =
    let (disposition, is, says) = of_packet HasAccount state packet (search (rules, ignored-writes_no_line)) in
    record {
      disposition = disposition;
      is = is;
      explanation = ap (λ o. packet_text_if_any (option_map (packet_line_of packet) o)) is;
      says = λ applied. says;
      is_applied = (λ applied failed. rw failed at says, λ other. refl);
      counts = ap (λ o. increment_if_any state.counts (counter_in o)) is;
    }
explained state packet failed = record {
  disposition = without_device why.Failed;
  is = refl;
  explanation = refl;
  says = λ applied. absurd cc;
  is_applied = (λ applied. absurd cc, λ other. absurd (other refl));
  counts = refl;
}

pub explanations_are_counted : ExplanationsAreCounted
explanations_are_counted = record { packets = explained; lines = λ state line result. grind arith }

-- ---- failures

pub failures_are_counted : FailuresAreCounted
failures_are_counted old new [] [] [] run fits =
    let same = ap (λ (s : State). s.counts.refused) run in omega (arith, same, fits)
failures_are_counted old new (input ∷ inputs) (Applied ∷ results) (answer ∷ answers) run fits =
    let same = applied-not_counted_as_failed old input in
    failures_are_counted (state_after_result old input Applied) new inputs results answers run.2
    (omega (arith, same, fits))
    ∙ ap (λ count. saturated_sum count (failure_count results)) same
failures_are_counted old new (input ∷ inputs) (failed ∷ results) (answer ∷ answers) run fits =
    saturated_sum-twice old.counts.refused (saturated_increment old.counts.refused) new.counts.refused 1
    (failure_count results) refl
    (failures_are_counted (state_after_result old input failed) new inputs results answers run.2 (omega arith))
failures_are_counted old new inputs results answers run fits = absurd run

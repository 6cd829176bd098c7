-- Counters: which input increments which, and the reason in the line that explains a packet.
use Rattle.std.specs.Prelude.{◌≡◌, ◌↔◌, IsSome, ℕ, List, [], ◌∷◌, Option, Some, None}
use Rattle.esp3_frames.specs.Packet.{Packet}
use Rattle.gateway_state.specs.declared.counts.Counter.TheVariants as count
use Rattle.gateway_state.specs.declared.handling_reason.HandlingReason.{HandlingReason}
use Rattle.gateway_state.specs.declared.handling_reason.HandlingReason.TheVariants as why
use Rattle.gateway_state.specs.Counts.{increment}
use Rattle.json_lines.specs.Lines.{DeskLine, Reading, ReadingLine, ModuleResponse, ResponseLine, TeachLine, Teach, text}
use Rattle.json_lines.specs.PacketLines.{packet_text}
use Rattle.gateway_core.specs.declared.disposition.Disposition.{Disposition}
use Rattle.gateway_core.specs.Dispositions.{without_device, counter_for, packet_line_of}
use Rattle.gateway_core.specs.Run.{InputResult, Applied, Failed, FailedAtCommit, answer_for_result, state_after_result}
use Rattle.gateway_core.specs.Step.{State, Received, Ordered, answer_to_applied_input, counter_for_applied_input}
use Rattle.gateway_core.specs.Step.{effect}

-- An applied packet increments one counter: that of teach-in exactly when it is answered with a teach line. An applied
-- order line increments none.
pub record AppliedPacketsAreCounted : Type 0 where
  pub packets : (state : State) (packet : Packet) → IsSome (counter_for_applied_input state (Received packet))
  pub teach_line_is_counted : (state : State) (packet : Packet) (line : TeachLine)
      → (answer_to_applied_input state (Received packet)).desk ≡ text (Teach line)
      → counter_for_applied_input state (Received packet) ≡ Some count.TeachLine
  pub counted_has_teach_line : (state : State) (packet : Packet)
      → counter_for_applied_input state (Received packet) ≡ Some count.TeachLine
      → (line : TeachLine) × ((answer_to_applied_input state (Received packet)).desk ≡ text (Teach line))
  pub lines : (state : State) (line : List ℕ) → counter_for_applied_input state (Ordered line) ≡ None

-- the disposition of a packet with this result
abbrev pub disposition_for_result : State → Packet → InputResult → Option Disposition
disposition_for_result state packet Applied = (effect state (Received packet)).disposition
disposition_for_result state packet (Failed cause) = Some (without_device why.Failed)
disposition_for_result state packet (FailedAtCommit cause) = Some (without_device why.Failed)

-- what the desk receives for an applied packet besides the explanation, by the word of the reason: its reading, the
-- response, the outcome for a sender, or nothing for any other word
abbrev pub MatchesDeskLines : HandlingReason → List DeskLine → Type 0
MatchesDeskLines why.Read lines = (line : ReadingLine) × (lines ≡ Reading line ∷ [])
MatchesDeskLines why.Response lines = (line : ModuleResponse) × (lines ≡ ResponseLine line ∷ [])
MatchesDeskLines (why.TeachIn outcome) lines = (line : TeachLine) × (line.outcome ≡ outcome) × (lines ≡ Teach line ∷ [])
MatchesDeskLines why.Failed lines = ⊥
MatchesDeskLines why lines = lines ≡ []

-- One line explains the packet. Its word is that of what the desk receives with it, and that of failures exactly when
-- the packet failed. The packet increments only the counter of this word.
pub record IsExplained (state : State) (packet : Packet) (result : InputResult) : Type 0 where
  pub disposition : Disposition
  pub is : disposition_for_result state packet result ≡ Some disposition
  pub explanation : (answer_for_result state (Received packet) result).explanation
      ≡ packet_text (packet_line_of packet disposition)
  pub says : result ≡ Applied → MatchesDeskLines disposition.why (effect state (Received packet)).desk
  pub is_applied : (result ≡ Applied) ↔ (¬ (disposition.why ≡ why.Failed))
  pub counts : (state_after_result state (Received packet) result).counts
      ≡ increment state.counts (counter_for disposition.why)

-- this explains each packet, applied or failed, and no line of the desk
pub record ExplanationsAreCounted : Type 0 where
  pub packets : (state : State) (packet : Packet) (result : InputResult) → IsExplained state packet result
  pub lines : (state : State) (line : List ℕ) (result : InputResult)
      → (answer_for_result state (Ordered line) result).explanation ≡ []

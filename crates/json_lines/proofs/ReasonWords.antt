-- Each word for a reason stands for one reason.
use Rattle.std.proofs.Common.{arith, ◌≡◌, ℕ, List, [], ◌∷◌, ap, sym, ◌∙◌}
use Rattle.std.specs.Prelude.{if◌then◌else◌}
use Rattle.std.specs.Str.{bytes_eq}
use Rattle.teach_in.specs.declared.outcome.Outcome.TheVariants.{Accepted, Deleted, Unsupported, Full, General}
use Rattle.teach_in.specs.declared.outcome.Outcome.TheVariants.{NoProfile}
use Rattle.erp1_telegrams.specs.declared.address.FilterReason.TheVariants.{FromBroadcast, ForOthers}
use Rattle.json_lines.specs.PacketLines.{reason_word}
use Rattle.gateway_state.specs.declared.handling_reason.HandlingReason.{HandlingReason}
use Rattle.gateway_state.specs.declared.handling_reason.HandlingReason.TheVariants.{Failed, Response, EmptyResponse}
use Rattle.gateway_state.specs.declared.handling_reason.HandlingReason.TheVariants.{OtherType, NoTelegram, FilteredOut}
use Rattle.gateway_state.specs.declared.handling_reason.HandlingReason.TheVariants.{TeachInReply, TeachIn, WindowClosed}
use Rattle.gateway_state.specs.declared.handling_reason.HandlingReason.TheVariants.{OtherMode, Read, UnknownSender}
use Rattle.gateway_state.specs.declared.handling_reason.HandlingReason.TheVariants.{WrongKind, WrongLength}
use Rattle.gateway_state.specs.declared.handling_reason.HandlingReason.TheVariants.{OtherMessage}

-- the first of some reasons with this word, or otherwise the last of all
with-word : List ℕ → List HandlingReason → HandlingReason
with-word word [] = OtherMessage
with-word word (why ∷ others) = if bytes_eq word (reason_word why) then why else with-word word others

every : List HandlingReason
every =
    Failed ∷ Response ∷ EmptyResponse ∷ OtherType ∷ NoTelegram ∷ FilteredOut FromBroadcast ∷ FilteredOut ForOthers
    ∷ TeachInReply ∷ TeachIn Accepted ∷ TeachIn Deleted ∷ TeachIn Unsupported ∷ TeachIn Full ∷ TeachIn General
    ∷ TeachIn NoProfile ∷ WindowClosed ∷ OtherMode ∷ Read ∷ UnknownSender ∷ WrongKind ∷ WrongLength ∷ []

back : (why : HandlingReason) → with-word (reason_word why) every ≡ why
unfolding with-word every
back why = grind arith

pub one_why : (why other : HandlingReason) → reason_word why ≡ reason_word other → why ≡ other
one_why why other same = sym (back why) ∙ ap (λ word. with-word word every) same ∙ back other

-- The calls of a gateway are a run.
use Rattle.std.proofs.Common.{◌≡◌, ℕ, suc, ◌<◌, List, [], ◌∷◌, ◌++◌, length, take, refl, ap, sym, ◌∙◌, append_assoc}
use Rattle.std.proofs.Common.{arith, append-nil, Some, None, subst}
use Rattle.learned_devices.specs.DeviceStoreState.{DeviceStoreState}
use Rattle.esp3_frames.specs.Packet.{Packet}
use Rattle.esp3_frames.specs.PacketsAndRest.{packets_in, rest_of}
use Rattle.esp3_frames.proofs.ForCallers.{framing_in_parts, packets_and_rest-may_become, empty_may_become}
use Rattle.gateway_core.specs.Step.{Input, Received, Ordered}
use Rattle.gateway_core.specs.Handling.{Handles, HandlerValue}
use Rattle.gateway_core.specs.Calls.{GatewayValue, Call, Bytes, Next, Order, Transitions, bytes_of, answers_of}
use Rattle.gateway_core.specs.Calls.{AreInputs, CallsAreARun, BytesOneByOne}
use Rattle.gateway_core.proofs.HandlesLemmas.{handles-nothing, handles-append}
use Rattle.gateway_core.proofs.ChunkLemmas.{rest_of-may_become_packet}

-- no packet is complete in these bytes
abbrev IsRest : List ℕ → Type 0
IsRest rest = ([] ≡ packets_in rest) × (rest ≡ rest_of rest)

rest-is_rest : (stream : List ℕ) → IsRest (rest_of stream)
rest-is_rest stream = packets_and_rest-may_become (rest_of stream) (rest_of-may_become_packet stream)

module _ {S : Type 0} (stored : S → DeviceStoreState) where
  -- the theorem, from any gateway
  record GoesOn (old : GatewayValue S) (calls : List Call) (new : GatewayValue S) : Type 0 where
    handled : List Packet
    inputs : List Input
    packets : old.ready ++ packets_in (old.rest ++ bytes_of calls) ≡ handled ++ new.ready
    rest : rest_of (old.rest ++ bytes_of calls) ≡ new.rest
    in_order : AreInputs calls handled inputs
    run : Handles stored old.handler inputs (answers_of calls) new.handler

  transitions-are_run : (old : GatewayValue S) (calls : List Call) (new : GatewayValue S) → IsRest old.rest
      → Transitions stored old calls new → GoesOn old calls new
  transitions-are_run old [] new is_rest same = record {
    handled = [];
    inputs = [];
    packets = rw (same, append-nil old.rest, sym is_rest.0, append-nil old.ready);
    rest = rw (same, append-nil old.rest) (sym is_rest.1);
    in_order = (refl, refl);
    run = rw same (handles-nothing stored old.handler);
  }
  transitions-are_run old (Bytes bytes ∷ calls) new is_rest (mid, (none, same, ready, rest), moves) =
      let on = transitions-are_run mid calls new (rw rest (rest-is_rest (old.rest ++ bytes))) moves in
      let parts = framing_in_parts (old.rest ++ bytes) (bytes_of calls) in
      let joined = append_assoc old.rest bytes (bytes_of calls) in
      record {
        handled = on.handled;
        inputs = on.inputs;
        packets = cc (joined, parts.0, none, on.packets);
        rest = cc (joined, parts.1, on.rest);
        in_order = on.in_order;
        run = let P : HandlerValue S → Type 0 =
            λ handler. Handles stored handler on.inputs (answers_of calls) new.handler in subst P same on.run;
      }
  transitions-are_run old (Next None ∷ calls) new is_rest (mid, (none, same), moves) =
      let on = transitions-are_run old calls new is_rest (rw same at moves) in
      record {
        handled = on.handled;
        inputs = on.inputs;
        packets = on.packets;
        rest = on.rest;
        in_order = on.in_order;
        run = on.run;
      }
  transitions-are_run old (Next (Some answer) ∷ calls) new is_rest (mid, (packet, first, rest, handles), moves) =
      let on = transitions-are_run mid calls new (rw rest is_rest) moves in
      record {
        handled = packet ∷ on.handled;
        inputs = Received packet ∷ on.inputs;
        packets = cc (on.packets);
        rest = cc (on.rest);
        in_order = (refl, on.in_order);
        run = handles-append stored old.handler mid.handler new.handler (Received packet ∷ []) on.inputs (answer ∷ [])
            (answers_of calls) handles on.run;
      }
  transitions-are_run old (Order line answer ∷ calls) new is_rest (mid, (ready, rest, handles), moves) =
      let on = transitions-are_run mid calls new (rw rest is_rest) moves in
      record {
        handled = on.handled;
        inputs = Ordered line ∷ on.inputs;
        packets = cc (on.packets);
        rest = cc (on.rest);
        in_order = (refl, on.in_order);
        run = handles-append stored old.handler mid.handler new.handler (Ordered line ∷ []) on.inputs (answer ∷ [])
            (answers_of calls) handles on.run;
      }

  pub calls_are_a_run : CallsAreARun stored
  calls_are_a_run base registry calls new moves =
      let on = transitions-are_run _ calls new (packets_and_rest-may_become [] empty_may_become) moves in
      record {
        handled = on.handled;
        inputs = on.inputs;
        packets = on.packets;
        rest = on.rest;
        in_order = on.in_order;
        run = on.run;
      }

  -- the first byte of a run, and the others from what it leaves
  pub bytes_one_by_one : BytesOneByOne stored
  bytes_one_by_one old new [] some none moved = absurd (omega arith)
  bytes_one_by_one old new (byte ∷ []) some none moved = (new, moved, refl)
  bytes_one_by_one old new (byte ∷ next ∷ bytes) some none (idle, same, ready, rest) =
      let first : List ℕ = old.rest ++ byte ∷ [] in
      let mid : GatewayValue S = record {
        handler = old.handler;
        ready = packets_in first;
        rest = rest_of first;
      } in
      let quiet : packets_in first ≡ [] = none 1 (omega arith) in
      let along : (others : List ℕ) → first ++ others ≡ old.rest ++ byte ∷ others =
      λ others. append_assoc old.rest (byte ∷ []) others in
      let behind : (others : List ℕ) → packets_in (rest_of first ++ others) ≡ packets_in (old.rest ++ byte ∷ others) =
      λ others.
      ap (λ (ps : List Packet). ps ++ packets_in (rest_of first ++ others)) (sym quiet)
      ∙ sym (framing_in_parts first others).0 ∙ ap packets_in (along others)
      in
      let later : (k : ℕ) → k < length (next ∷ bytes) → packets_in (mid.rest ++ take k (next ∷ bytes)) ≡ [] =
      λ k below. behind (take k (next ∷ bytes)) ∙ none (suc k) (omega arith) in (
        mid,
        (idle, refl, refl, refl),
        bytes_one_by_one mid new (next ∷ bytes) (omega arith) later (
          quiet,
          same,
          ready ∙ sym (behind (next ∷ bytes)),
          rest ∙ ap rest_of (sym (along (next ∷ bytes))) ∙ (framing_in_parts first (next ∷ bytes)).1,
        ),
      )

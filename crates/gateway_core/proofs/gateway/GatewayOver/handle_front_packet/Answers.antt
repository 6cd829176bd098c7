use Rattle.std.proofs.Common.{◌≡◌, List, ℕ, [], ◌∷◌, ◌++◌, take, sym, ap, ◌∙◌}
use Rattle.esp3_frames.specs.Packet.{Packet}
use Rattle.esp3_frames.specs.PacketsAndRest.{PacketsAndRest, packets_and_rest}
use Rattle.esp3_frames.specs.Outcome.{packet_of}
use Rattle.gateway_core.specs.Calls.{GatewayValue}
use Rattle.gateway_core.proofs.gateway.GatewayOver.handle_front_packet.Goals as goal

-- between the two calls the packet is ready
pub returns-clause-taken : goal.returns-clause-taken
returns-clause-taken g c =
    let Over = g.row.S.Denot in
    let old : GatewayValue Over = c.args.self.now in
    let framer = c.self.inside.framer in
    let packet : Packet = packet_of c.in_ok-packet.packet in
    let bytes : List ℕ = take c.in_ok-packet.count c.args.bytes.now in
    let mid : GatewayValue Over = record {
      handler = c.self.inside.handler;
      ready = packet ∷ [];
      rest = old.rest;
    } in
    let ready : framer.ready ≡ [] = ap (λ (gateway : GatewayValue Over). gateway.ready) c.self.view_is ∙ c.requires in
    let rest : framer.rest ≡ old.rest = ap (λ (gateway : GatewayValue Over). gateway.rest) c.self.view_is in
    let framed : packets_and_rest (old.rest ++ bytes) ≡ record { ready = packet ∷ []; rest = framer.rest } =
    ap (λ (r : List ℕ). packets_and_rest (r ++ bytes)) (sym rest) ∙ c.in_ok-packet.ensures.taken in (
      mid,
      (
        c.requires,
        ap (λ (gateway : GatewayValue Over). gateway.handler) c.self.view_is,
        sym (ap (λ (f : PacketsAndRest). f.ready) framed),
        sym (ap (λ (f : PacketsAndRest). f.rest) framed ∙ rest),
      ),
      (packet, ap (λ (ps : List Packet). packet ∷ ps) (sym ready), rest, c.packet.ensures),
    )

use Rattle.std.proofs.Common.{sym}
use Rattle.esp3_frames.specs.Outcome.{packet_of}
use Rattle.gateway_core.proofs.gateway.GatewayOver.handle_next.Goals as goal

pub returns : goal.returns
returns g c =
    rw (sym c.self.view_is)
    (packet_of c.in_ok-packet.packet, c.in_ok-packet.ensures.taken.0, c.in_ok-packet.ensures.taken.1, c.packet.ensures)

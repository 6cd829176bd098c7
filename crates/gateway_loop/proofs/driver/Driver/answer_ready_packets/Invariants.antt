use Rattle.std.proofs.Common.{◌≡◌, length}
use Rattle.gateway_loop.specs.private.DriverSteps.{Drains}
use Rattle.gateway_loop.proofs.driver.Driver.answer_ready_packets.Given as goal

abbrev pub invariant-loop-handled : goal.invariant-loop-handled
invariant-loop-handled g l = record {
  gateway : l.self.gateway.ghost_name ≡ l.fn.self.gateway.ghost_name;
  loans : g.O.ReplySink.loans l.self.reply_sink ≡ g.O.ReplySink.loans l.fn.self.reply_sink;
  drains : Drains g.S.DeviceStore.store_state l.fn.self.gateway.now l.self.gateway.now
      (g.O.ReplySink.output.puts l.fn.self.reply_sink l.self.reply_sink) l.fn.self.items l.self.items;
}

abbrev pub decreases-loop-handled : goal.decreases-loop-handled
decreases-loop-handled g l = length l.self.gateway.now.ready

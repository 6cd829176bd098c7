use Rattle.std.proofs.Common.{◌≡◌, ◌≤◌, ◌-◌, take, length, [], ◌∷◌}
use Rattle.gateway_core.specs.Events.{Chunk}
use Rattle.gateway_loop.specs.private.DriverSteps.{Takes}
use Rattle.gateway_loop.proofs.driver.Driver.process_chunk.Given as goal

-- the packets of the bytes so far are answered
abbrev pub invariant-loop-count : goal.invariant-loop-count
invariant-loop-count g l = record {
  within : l.count ≤ length l.chunk;
  gateway : l.self.gateway.ghost_name ≡ l.fn.self.gateway.ghost_name;
  loans : g.O.ReplySink.loans l.self.reply_sink ≡ g.O.ReplySink.loans l.fn.self.reply_sink;
  takes : Takes g.S.DeviceStore.store_state g.O.ReplySink.output l.fn.self l.self (Chunk (take l.count l.chunk) ∷ []);
}

abbrev pub decreases-loop-count : goal.decreases-loop-count
decreases-loop-count g l = length l.chunk - l.count

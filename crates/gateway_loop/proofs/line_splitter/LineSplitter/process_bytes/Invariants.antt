use Rattle.std.proofs.Common.{◌≡◌, ◌++◌, List, ℕ, length}
use Rattle.gateway_loop.specs.private.LineSplitting.{TakesEndedLines}
use Rattle.gateway_loop.specs.private.Lines.{KeepsTruncatedLine}
use Rattle.gateway_loop.specs.Processing.{HasNoReadyPacket}
use Rattle.gateway_loop.proofs.line_splitter.LineSplitter.process_bytes.Given as goal

-- the lines that end in the bytes so far are taken
abbrev pub invariant-loop-end : goal.invariant-loop-end
invariant-loop-end g l = record {
  gateway : l.self.driver.gateway.ghost_name ≡ l.fn.self.driver.gateway.ghost_name;
  loans : g.O.ReplySink.loans l.self.driver.reply_sink ≡ g.O.ReplySink.loans l.fn.self.driver.reply_sink;
  idle : HasNoReadyPacket l.self.driver.gateway.now;
  taken : (done : List ℕ) × (l.bytes ≡ done ++ l.rest) × ((tail : List ℕ) → KeepsTruncatedLine tail l.fn.self.partial →
      TakesEndedLines g.S.DeviceStore.store_state g.O.ReplySink.output l.lines l.fn.self l.self (tail ++ done));
}

abbrev pub decreases-loop-end : goal.decreases-loop-end
decreases-loop-end g l = length l.rest

use Rattle.std.proofs.Common.{◌≡◌, List, length}
use Rattle.byte_io.specs.Streams.{source_value}
use Rattle.gateway_loop.specs.Processing.{HasNoReadyPacket}
use Rattle.gateway_loop.specs.Reads.{AllReadsSucceed}
use Rattle.gateway_loop.specs.Turns.{Turn, desk_reads, serial_reads}
use Rattle.gateway_loop.specs.LiveOutputs.{live_output_of}
use Rattle.gateway_loop.proofs.TurnLemmas.{TakesTurns}
use Rattle.gateway_loop.proofs.live_gateway.live.Given as goal

abbrev pub invariant-loop-turn : goal.invariant-loop-turn
invariant-loop-turn g l = record {
  gateway : l.splitter.driver.gateway.ghost_name ≡ l.initial.splitter.driver.gateway.ghost_name;
  serial : l.splitter.driver.reply_sink.serial.ghost_name ≡ l.initial.splitter.driver.reply_sink.serial.ghost_name;
  desk : l.splitter.driver.reply_sink.desk.ghost_name ≡ l.initial.splitter.driver.reply_sink.desk.ghost_name;
  idle : HasNoReadyPacket l.splitter.driver.gateway.now;
  progress : (read : List Turn) × (length read ≡ l._turn)
      × AllReadsSucceed (source_value g.P.Source l.fn.serial_in) (source_value g.P.Source l.serial_in)
      (serial_reads read)
      × AllReadsSucceed (source_value g.Q.Source l.fn.desk_in) (source_value g.Q.Source l.desk_in) (desk_reads read)
      × TakesTurns g.S.DeviceStore.store_state (live_output_of g.R.Sink g.D.Sink) l.initial.splitter l.splitter
      read;
}

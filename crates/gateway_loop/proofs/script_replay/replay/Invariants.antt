use Rattle.std.proofs.Common.{◌≡◌, List, ℕ, length}
use Rattle.std.specs.List.{concat}
use Rattle.byte_io.specs.Streams.{source_value}
use Rattle.gateway_loop.specs.Processing.{HasNoReadyPacket}
use Rattle.gateway_loop.specs.private.LineSplitting.{TakesEndedLines}
use Rattle.gateway_loop.specs.Reads.{AllReadsSucceed, NoneIsEmpty}
use Rattle.gateway_loop.specs.declared.line_splitter.LineSource.TheVariants.{ScriptLines}
use Rattle.gateway_loop.specs.Written.{replay_output_of}
use Rattle.gateway_loop.proofs.script_replay.replay.Given as goal

abbrev pub invariant-loop-turn : goal.invariant-loop-turn
invariant-loop-turn g l = record {
  gateway : l.splitter.driver.gateway.ghost_name ≡ l.initial.splitter.driver.gateway.ghost_name;
  writer : l.splitter.driver.reply_sink.sink.ghost_name ≡ l.initial.splitter.driver.reply_sink.sink.ghost_name;
  idle : HasNoReadyPacket l.splitter.driver.gateway.now;
  progress : (reads : List (List ℕ)) × (length reads ≡ l._turn)
      × AllReadsSucceed (source_value g.R.Source l.fn.reader) (source_value g.R.Source l.reader) reads
      × NoneIsEmpty reads
      × TakesEndedLines g.S.DeviceStore.store_state
      (replay_output_of g.W.Sink) ScriptLines l.initial.splitter l.splitter
      (concat reads);
}

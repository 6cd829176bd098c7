use Rattle.std.proofs.Common.{length}
use Rattle.byte_io.specs.Streams.{sink_value}
use Rattle.byte_io.proofs.WriteLemmas.{Left}
use Rattle.byte_io.proofs.writing.write_text.Given as goal

abbrev pub invariant-loop-rest : goal.invariant-loop-rest
invariant-loop-rest g l = Left (sink_value g.W.Sink l.fn.writer) (sink_value g.W.Sink l.writer) l.text l.rest

abbrev pub decreases-loop-rest : goal.decreases-loop-rest
decreases-loop-rest g l = length l.rest

use Rattle.byte_io.specs.Streams.{sink_value}
use Rattle.byte_io.proofs.WriteLemmas.{left_after}
use Rattle.byte_io.proofs.writing.write_text.Goals as goal

pub loop-rest-preserved : goal.loop-rest-preserved
loop-rest-preserved g c =
    let sink = sink_value g.W.Sink in
    let write = c.in_ok-count.ensures in
    left_after (sink c.args.writer.now) (sink c.loop-rest.writer) (sink c.write.new.self) c.args.text.now
    c.loop-rest.rest.now c.in_ok-count.count c.loop-rest.invariant c.if-count-eq0.false write.within write.listed
    write.bytes

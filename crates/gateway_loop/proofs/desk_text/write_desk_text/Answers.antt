use Rattle.std.proofs.Common.{[]}
use Rattle.byte_io.specs.Streams.{sink_value}
use Rattle.byte_io.specs.Writes.{Writes, WritesPart, WritesText}
use Rattle.json_lines.specs.PacketLines.{packet_text}
use Rattle.gateway_core.specs.Desks.{desk_bytes}
use Rattle.gateway_loop.proofs.WriteLemmas.{part_of_front, writes-append, writes_part}
use Rattle.gateway_loop.proofs.desk_text.write_desk_text.Goals as goal
use Rattle.gateway_loop.proofs.desk_text.write_desk_text.Goals.{then-explains+in-Some+in_ok-write_text, else-explains}
use Rattle.gateway_loop.proofs.desk_text.write_desk_text.Goals.{then-explains+in_default}

pub returns-in_err-write_text : goal.returns-in_err-write_text
returns-in_err-write_text g c =
    let old = sink_value g.W.Sink c.args.writer.now in
    let new = sink_value g.W.Sink c.write_text.new.writer in
    let text = packet_text c.in-Some.line.now in
    let part : WritesPart old new [] text =
    rw (c.as_slice.ensures.value, c.packet_line.ensures) at c.in_err-write_text.ensures.written in
    record {
      written =
          rw (c.if-explains.true, c.in-Some.is)
          (writes_part _ _ _ _ _ c.from_residual.ensures.1
          (part_of_front old new text (desk_bytes c.args.reply.now.desk) part));
    }

pub returns : goal.returns
returns g c =
    let sink = sink_value g.W.Sink in
    let old = sink c.args.writer.now in
    let new = sink c.write_text-2.new.writer in
    let r = c.write_text-2.result in
    let text = desk_bytes c.args.reply.now.desk in
    let desk : Writes (sink c.if-explains.writer) new r text =
    rw c.as_bytes.ensures at c.write_text-2.ensures.written in
    record {
      written = elim c.if-explains.branch [
        | then-explains+in-Some+in_ok-write_text w ↦
            let first : WritesText old (sink c.if-explains.writer) (packet_text w.in-Some.line.now) =
            rw (w.writer-is, ← w.packet_line.ensures, ← w.as_slice.ensures.value)
            w.in_ok-write_text.ensures.written in
            rw (w.if-explains.true, w.in-Some.is)
            (writes-append old (sink c.if-explains.writer) new r (packet_text w.in-Some.line.now) text first desk)
        | then-explains+in_default w ↦ rw (w.if-explains.true, w.in_default.is) (rw w.writer-is at desk)
        | else-explains w ↦ rw w.if-explains.false (rw w.writer-is at desk)
      ];
    }

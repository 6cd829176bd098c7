use Rattle.std.proofs.Common.{rules, ◌≡◌, ◌++◌, codes}
use Rattle.byte_io.specs.Streams.{sink_value}
use Rattle.hex.specs.Hex.{encode_lower}
use Rattle.gateway_loop.proofs.WriteLemmas.{OnOk-where_ok, part_of_front, part_of_back, writes-append, writes_part}
use Rattle.gateway_loop.proofs.replay_output.write_chunk.Goals as goal

pub returns-in_err-write_text : goal.returns-in_err-write_text
returns-in_err-write_text g c =
    let sink = sink_value g.W.Sink in
    record {
      written =
          writes_part _ _ _ _ _ c.from_residual.ensures.1
          (part_of_front (sink c.args.writer.now) (sink c.write_text.new.writer) (codes "S ")
          (encode_lower c.args.bytes.now ++ codes "\n") c.in_err-write_text.ensures.written);
    }

pub returns-in_err-write_text-2 : goal.returns-in_err-write_text-2
returns-in_err-write_text-2 g c =
    let sink = sink_value g.W.Sink in
    let digits = encode_lower c.args.bytes.now in
    let spelled : c.encode_to_slice.new.output ≡ digits =
    OnOk-where_ok c.encode_to_slice.result (c.encode_to_slice.ensures.fits.1 (search rules))
    c.encode_to_slice.ensures.written in
    record {
      written =
          writes_part _ _ _ _ _ c.from_residual-in_err-write_text-2.ensures.1
          (part_of_back (sink c.args.writer.now) (sink c.write_text.new.writer) (sink c.write_text-2.new.writer)
          (codes "S ") (digits ++ codes "\n") c.in_ok-write_text.ensures.written
          (part_of_front (sink c.write_text.new.writer) (sink c.write_text-2.new.writer) digits (codes "\n")
          (rw spelled at c.in_err-write_text-2.ensures.written)));
    }

pub returns : goal.returns
returns g c =
    let sink = sink_value g.W.Sink in
    let digits = encode_lower c.args.bytes.now in
    let spelled : c.encode_to_slice.new.output ≡ digits =
    OnOk-where_ok c.encode_to_slice.result (c.encode_to_slice.ensures.fits.1 (search rules))
    c.encode_to_slice.ensures.written in
    record {
      written =
          writes-append (sink c.args.writer.now) (sink c.write_text.new.writer) (sink c.write_text-3.new.writer)
          c.write_text-3.result (codes "S ") (digits ++ codes "\n") c.in_ok-write_text.ensures.written
          (writes-append (sink c.write_text.new.writer) (sink c.write_text-2.new.writer)
          (sink c.write_text-3.new.writer) c.write_text-3.result digits (codes "\n")
          (rw spelled at c.in_ok-write_text-2.ensures.written)
          c.write_text-3.ensures.written);
    }

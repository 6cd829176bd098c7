use Rattle.std.proofs.Common.{rules, [], ◌≡◌, ap, inl, refl, sym, ◌∙◌, subst, Some}
use Rattle.std.specs.Option.{option_copied, option_map}
use Rattle.std.proofs.lemmas.Result.{err_from_is_err_and}
use Rattle.gateway_core.specs.Replies.{answer_of}
use Rattle.gateway_core.specs.Step.{with_packet_line}
use Rattle.byte_io.specs.Streams.{sink_value}
use Rattle.byte_io.specs.Writes.{WritesPart}
use Rattle.byte_io.proofs.ForCallers.{writes-nil}
use Rattle.gateway_loop.specs.LiveOutputs.{radio_bytes}
use Rattle.gateway_loop.proofs.live_outputs.LiveOutputsReplySink.put.Goals as goal

pub returns-in_err-write_text-clause-put : goal.returns-in_err-write_text-clause-put
returns-in_err-write_text-clause-put g c =
    let old = sink_value g.R.Sink c.args.self.now.serial.now in
    let new = sink_value g.R.Sink c.write_text.new.writer in
    let answer = with_packet_line (option_copied c.args.line) (answer_of c.args.reply.now) in
    let radio : answer.radio ≡ Some c.as_slice.result.now =
    ap (option_map (λ bytes. bytes.items)) c.in-Some.is ∙ ap Some (sym c.as_slice.ensures.value) in
    let part : WritesPart old new [] (radio_bytes answer.radio) =
    subst (λ r. WritesPart old new [] (radio_bytes r)) (sym radio) c.in_err-write_text.ensures.written in
    rw (err_from_is_err_and c.from_residual.result c.from_residual.ensures.1).1 (refl, inl (part, writes-nil _))

pub returns-clause-put : goal.returns-clause-put
returns-clause-put g c = search rules

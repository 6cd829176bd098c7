use Rattle.std.proofs.Common.{◌≡◌, [], ◌++◌, ap, sym, ◌∙◌, subst, Some, None}
use Rattle.std.specs.Option.{option_copied, option_map}
use Rattle.gateway_core.specs.Replies.{answer_of}
use Rattle.gateway_core.specs.Step.{with_packet_line}
use Rattle.byte_io.specs.Streams.{SinkValue, sink_value}
use Rattle.byte_io.specs.Writes.{Writes, WritesText}
use Rattle.gateway_loop.specs.TextOutput.{text_output}
use Rattle.gateway_loop.specs.Written.{desk_text, radio_chunk_line, text_of}
use Rattle.gateway_loop.proofs.WriteLemmas.{puts_by, puts_one, writes-append}
use Rattle.gateway_loop.proofs.replay_output.ReplayOutputReplySink.put.Goals as goal
use Rattle.gateway_loop.proofs.replay_output.ReplayOutputReplySink.put.Goals.{in-Some+in_ok-write_chunk, in_default}

pub returns-clause-put : goal.returns-clause-put
returns-clause-put g c =
    let explains = c.args.self.now.explains in
    let now = c.match-reply.self.explains in
    let old = sink_value g.W.Sink c.args.self.now.sink.now in
    let mid = sink_value g.W.Sink c.match-reply.self.sink.now in
    let new = sink_value g.W.Sink c.write_desk_text.new.writer in
    let r = c.write_desk_text.result in
    let answer = with_packet_line (option_copied c.args.line) (answer_of c.args.reply.now) in
    let reported : Writes mid new r (desk_text now answer) = c.write_desk_text.ensures.written in
    elim c.match-reply.branch [
      | in-Some+in_ok-write_chunk w ↦
          let same : now ≡ explains = ap (λ script. script.explains) w.self-is in
          let desk = subst (λ flag. Writes mid new r (desk_text flag answer)) same reported in
          let radio : answer.radio ≡ Some w.as_slice.result.now =
          ap (option_map (λ bytes. bytes.items)) w.in-Some.is ∙ ap Some (sym w.as_slice.ensures.value) in
          let first : WritesText old mid (radio_chunk_line answer.radio) =
          rw (w.self-is, radio) w.in_ok-write_chunk.ensures.written in
          puts_by (λ flag. text_output (text_of flag)) r (explains, old) (now, new) answer same
          (puts_one r (text_of explains) old new answer
          (writes-append old mid new r (radio_chunk_line answer.radio)
          (desk_text explains answer) first desk))
      | in_default w ↦
          let same : now ≡ explains = ap (λ script. script.explains) w.self-is in
          let desk = subst (λ flag. Writes mid new r (desk_text flag answer)) same reported in
          let radio : answer.radio ≡ None = ap (option_map (λ bytes. bytes.items)) w.in_default.is in
          let kept : mid ≡ old = ap (λ script. sink_value g.W.Sink script.sink.now) w.self-is in
          puts_by (λ flag. text_output (text_of flag)) r (explains, old) (now, new) answer same
          (puts_one r (text_of explains) old new answer
          (subst (λ o. Writes old new r (radio_chunk_line o ++ desk_text explains answer)) (sym radio)
          (subst (λ (sink : SinkValue). Writes sink new r (desk_text explains answer)) kept desk)))
    ]

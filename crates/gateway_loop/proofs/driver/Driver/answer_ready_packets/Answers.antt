use Rattle.std.proofs.Common.{rules, refl, ◌∙◌}
use Rattle.std.proofs.lemmas.Result.{err_from_is_err_and}
use Rattle.gateway_loop.proofs.DriverStepLemmas.{drains-nothing, drains-packet, drains_part-packet}
use Rattle.gateway_loop.proofs.driver.Driver.answer_ready_packets.Goals as goal

pub loop-handled-init : goal.loop-handled-init
loop-handled-init g c =
    let old = c.args.self.now in
    record {
      gateway = refl;
      loans = refl;
      drains = drains-nothing g.O.ReplySink.output old.gateway.now old.reply_sink old.items (search rules);
    }

pub returns-in_err-answer_packet-clause-broken : goal.returns-in_err-answer_packet-clause-broken
returns-in_err-answer_packet-clause-broken g c =
    rw (err_from_is_err_and c.from_residual.result c.from_residual.ensures.1).1
    (drains_part-packet g.O.ReplySink.output c.args.self.now.reply_sink c.loop-handled.self.reply_sink
    c.answer_packet.new.self.reply_sink c.loop-handled.invariant.drains
    (rw c.answer_packet.ensures.kept c.in-Some.ensures) c.in_err-answer_packet.ensures.put)

pub loop-handled-preserved-in_ok-answer_packet : goal.loop-handled-preserved-in_ok-answer_packet
loop-handled-preserved-in_ok-answer_packet g c =
    let before = c.loop-handled.invariant in
    let answered = c.answer_packet.ensures in
    record {
      gateway = answered.gateway ∙ before.gateway;
      loans = answered.loans ∙ before.loans;
      drains = drains-packet g.O.ReplySink.output c.args.self.now.reply_sink c.loop-handled.self.reply_sink
          c.answer_packet.new.self.reply_sink before.drains (rw answered.kept c.in-Some.ensures)
          c.in_ok-answer_packet.ensures.put answered.counted;
    }

pub loop-handled-preserved : goal.loop-handled-preserved
loop-handled-preserved g c =
    let before = c.loop-handled.invariant in
    let answered = c.answer_packet.ensures in
    record {
      gateway = answered.gateway ∙ before.gateway;
      loans = answered.loans ∙ before.loans;
      drains = drains-packet g.O.ReplySink.output c.args.self.now.reply_sink c.loop-handled.self.reply_sink
          c.answer_packet.new.self.reply_sink before.drains (rw answered.kept c.in-Some.ensures)
          c.in_ok-answer_packet.ensures.put answered.counted;
    }

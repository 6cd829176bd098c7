use Rattle.std.proofs.Common.{take, drop, rules, sym}
use Rattle.std.proofs.lemmas.List.{take-append-drop}
use Rattle.std.proofs.lemmas.Result.{err_from_is_err_and}
use Rattle.gateway_loop.proofs.DriverStepLemmas.{drains-nothing, drains-packet, drains_part-packet, takes-run}
use Rattle.gateway_loop.proofs.DriverStepLemmas.{breaks-run}
use Rattle.gateway_loop.proofs.driver.Driver.process_front.Goals as goal

-- a packet at the front

pub returns-in_err-answer_packet-clause-taken : goal.returns-in_err-answer_packet-clause-taken
returns-in_err-answer_packet-clause-taken g c =
    let output = g.O.ReplySink.output in
    let old = c.args.self.now in
    let new = c.answer_packet.new.self in
    let bytes = c.args.bytes.now in
    let count = c.in-Some.count in
    let (mid, moved, handled) = c.in-Some.ensures.taken in
    rw (err_from_is_err_and c.from_residual.result c.from_residual.ensures.1).1
    (breaks-run output old new (take count bytes) (drop count bytes) c.requires.idle moved
    (drains_part-packet output old.reply_sink old.reply_sink new.reply_sink
    (drains-nothing output mid old.reply_sink old.items (search rules))
    (rw c.answer_packet.ensures.kept handled) c.in_err-answer_packet.ensures.put)
    (sym (take-append-drop count bytes)))

pub returns-in-Some-clause-taken : goal.returns-in-Some-clause-taken
returns-in-Some-clause-taken g c =
    let output = g.O.ReplySink.output in
    let old = c.args.self.now in
    let new = c.answer_packet.new.self in
    let (mid, moved, handled) = c.in-Some.ensures.taken in
    takes-run output old new c.requires.idle moved (rw c.answer_packet.ensures.kept c.in-Some.ensures.ready)
    (drains-packet output old.reply_sink old.reply_sink new.reply_sink
    (drains-nothing output mid old.reply_sink old.items (search rules))
    (rw c.answer_packet.ensures.kept handled) c.in_ok-answer_packet.ensures.put c.answer_packet.ensures.counted)

-- otherwise the bytes up to the one that makes packets ready

pub returns-in_err-answer_ready_packets-clause-taken : goal.returns-in_err-answer_ready_packets-clause-taken
returns-in_err-answer_ready_packets-clause-taken g c =
    let bytes = c.args.bytes.now in
    let count = c.bytes-count.result in
    let residual = c.from_residual-in_err-answer_ready_packets in
    rw (err_from_is_err_and residual.result residual.ensures.1).1
    (breaks-run g.O.ReplySink.output c.args.self.now c.answer_ready_packets.new.self (take count bytes)
    (drop count bytes) c.requires.idle (rw c.in_default.ensures.none.0 at c.bytes-count.ensures.taken)
    c.in_err-answer_ready_packets.ensures.broken (sym (take-append-drop count bytes)))

pub returns-in_ok-answer_ready_packets-clause-taken : goal.returns-in_ok-answer_ready_packets-clause-taken
returns-in_ok-answer_ready_packets-clause-taken g c =
    let answered = c.in_ok-answer_ready_packets.ensures in
    takes-run g.O.ReplySink.output c.args.self.now c.answer_ready_packets.new.self c.requires.idle
    (rw c.in_default.ensures.none.0 at c.bytes-count.ensures.taken) answered.ready answered.drained

pub returns-else-is_ready-clause-taken : goal.returns-else-is_ready-clause-taken
returns-else-is_ready-clause-taken g c =
    let output = g.O.ReplySink.output in
    let old = c.args.self.now in
    takes-run output old _ c.requires.idle (rw c.in_default.ensures.none.0 at c.bytes-count.ensures.taken)
    (rw c.if-is_ready.false at c.is_ready.ensures.ready)
    (drains-nothing output c.bytes-count.new.self old.reply_sink old.items (search rules))

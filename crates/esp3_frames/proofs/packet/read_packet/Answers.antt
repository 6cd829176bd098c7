use Rattle.std.proofs.Common.{[], ◌+◌, ◌≤◌, length, arith, sym}
use Rattle.std.proofs.lemmas.List.{take_all, append-nil}
use Rattle.esp3_frames.specs.Outcome.{packet_of}
use Rattle.esp3_frames.proofs.FrontLemmas.{packet_length, whole-at_front, front-packet}
use Rattle.esp3_frames.proofs.packet.read_packet.Goals as goal
use Rattle.esp3_frames.proofs.packet.read_packet.Goals.{in_default-via-in-Some+else-len-b, in_default-via-in_default}

pub returns-in-Some-clause-some : goal.returns-in-Some-clause-some
returns-in-Some-clause-some c =
    let b = c.args.b.now in
    let p = packet_of c.in-Some.packet in
    let all : length b ≤ length p.body + length p.opt + 7 = omega (arith, c.in-Some.ensures.some.1, c.if-len-b.true) in
    rw (take_all _ b all) at (whole-at_front b p c.in-Some.ensures.some.0).2

pub returns-in_default-clause-none : goal.returns-in_default-clause-none
returns-in_default-clause-none c = λ p is.
    let whole = front-packet c.args.b.now [] is (sym (append-nil _)) in
    let size = packet_length p c.args.b.now is in
    elim c.in_default.branch [
      | in_default-via-in-Some+else-len-b w ↦ grind (arith, whole, size, w.in-Some.ensures.some)
      | in_default-via-in_default w ↦ w.in_default.ensures.none p whole
    ]

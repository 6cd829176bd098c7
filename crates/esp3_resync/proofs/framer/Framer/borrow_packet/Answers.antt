use Rattle.std.proofs.Common.{arith}
use Rattle.std.proofs.lemmas.Option.{IfSome_then}
use Rattle.esp3_frames.specs.Outcome.{packet_of}
use Rattle.esp3_frames.proofs.ForCallers.{whole-at_front, packets_and_rest-one}
use Rattle.esp3_resync.proofs.PacketsAndRestLemmas.{part_unready}
use Rattle.esp3_resync.proofs.HeaderLemmas.{held_bytes, empty_framer, not_empty}
use Rattle.esp3_resync.proofs.framer.Framer.borrow_packet.Goals as goal

pub returns-clause-within : goal.returns-clause-within
returns-clause-within c =
    IfSome_then c.packet_at_start.result c.packet_at_start.ensures.some (λ r is.
    let whole = whole-at_front c.args.bytes.now (packet_of r.0) is.0 in
    (omega (arith, is.1), omega (arith, is.1, whole.0)))

pub returns-clause-short : goal.returns-clause-short
returns-clause-short c =
    IfSome_then c.packet_at_start.result c.packet_at_start.ensures.some
    (λ r is. (whole-at_front c.args.bytes.now (packet_of r.0) is.0).2.body)

pub returns-clause-taken : goal.returns-clause-taken
returns-clause-taken c =
    let self = c.self.inside in
    let none = empty_framer self.front self.window c.args.self.now c.in-Empty.is c.self.invariant c.self.view_is in
    IfSome_then c.packet_at_start.result c.packet_at_start.ensures.some (λ r is.
    rw (none, is.1) (packets_and_rest-one (packet_of r.0) _ (whole-at_front c.args.bytes.now (packet_of r.0) is.0).2))

pub returns-clause-before : goal.returns-clause-before
returns-clause-before c =
    let self = c.self.inside in
    let none = empty_framer self.front self.window c.args.self.now c.in-Empty.is c.self.invariant c.self.view_is in
    IfSome_then c.packet_at_start.result c.packet_at_start.ensures.some (λ r is k below.
    rw none (part_unready c.args.bytes.now (packet_of r.0) k is.0 (omega (arith, is.1, below))))

pub returns-in_default-clause-none : goal.returns-in_default-clause-none
returns-in_default-clause-none c = grind (arith, held_bytes, not_empty)

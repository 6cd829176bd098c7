use Rattle.std.proofs.Common.{arith, length-take, sym, ap, ◌∙◌}
use Rattle.esp3_frames.specs.Outcome.{header_of}
use Rattle.esp3_frames.proofs.FrontByHeader.{short-no_whole, announced-no_whole, front-bad, front-good}
use Rattle.esp3_frames.proofs.FrontByHeader.{front_after_header-whole, front_after_header-never}
use Rattle.esp3_frames.proofs.packet.packet_at_start.Goals as goal

pub returns-in_err-front-clause-none : goal.returns-in_err-front-clause-none
returns-in_err-front-clause-none c = grind (arith, short-no_whole)

pub returns-then-rest-len-clause-none : goal.returns-then-rest-len-clause-none
returns-then-rest-len-clause-none c = grind (arith, announced-no_whole)

pub returns-in_default-clause-none : goal.returns-in_default-clause-none
returns-in_default-clause-none c = λ p whole.
    let parts = c.in_ok-front.ensures.cases in
    let fault = ap header_of (sym parts.0) ∙ c.in_default.ensures.err in
    let never = front-bad c.args.b.now c.in_default.field-0 (omega (arith, parts.2)) fault in cc

pub returns-then-rest-len-2-clause-none : goal.returns-then-rest-len-2-clause-none
returns-then-rest-len-2-clause-none c = grind (arith, front-good, front_after_header-never)

pub returns-clause-some : goal.returns-clause-some
returns-clause-some c = grind (arith, front-good, front_after_header-whole, length-take)

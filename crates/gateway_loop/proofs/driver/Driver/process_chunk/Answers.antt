use Rattle.std.proofs.Common.{rules, refl, drop, arith, length, ◌-◌, ◌∙◌, length-take, length-drop}
use Rattle.std.proofs.lemmas.Result.{err_from_is_err_and}
use Rattle.gateway_loop.proofs.ListLemmas.{split_rest, take_front}
use Rattle.gateway_loop.proofs.DriverStepLemmas.{takes-no_bytes, takes-chunks, breaks-chunks}
use Rattle.gateway_loop.proofs.driver.Driver.process_chunk.Goals as goal

pub loop-count-init : goal.loop-count-init
loop-count-init g c = record {
  within = omega arith;
  gateway = refl;
  loans = refl;
  takes = takes-no_bytes g.O.ReplySink.output c.args.self.now c.requires (search rules);
}

pub returns-in_err-count-clause-taken : goal.returns-in_err-count-clause-taken
returns-in_err-count-clause-taken g c =
    rw (err_from_is_err_and c.from_residual.result c.from_residual.ensures.1).1
    (rw (split_rest c.args.chunk.now c.loop-count.count) at
    (breaks-chunks g.O.ReplySink.output c.process_front.new.self c.loop-count.invariant.takes
    c.in_err-count.ensures.taken))

pub loop-count-preserved : goal.loop-count-preserved
loop-count-preserved g c =
    let chunk = c.args.chunk.now in
    let count = c.loop-count.count in
    let before = c.loop-count.invariant in
    let after = c.in_ok-count.ensures in
    record {
      within = omega (
        arith,
        after.within.1,
        length-take (length chunk - count) (drop count chunk),
        length-drop count chunk,
      );
      gateway = search rules;
      loans = c.process_front.ensures.loans ∙ before.loans;
      takes = rw (take_front chunk count c.in_ok-count.field-0)
          (takes-chunks g.O.ReplySink.output before.takes after.taken);
    }

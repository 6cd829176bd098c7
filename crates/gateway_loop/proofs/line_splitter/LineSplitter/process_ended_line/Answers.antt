use Rattle.std.proofs.Common.{Ok, Err, ◌++◌, length, take, sym, ◌∙◌}
use Rattle.std.specs.Str.Lines.{strip_carriage_return}
use Rattle.std.proofs.lemmas.Bool.{eqb-true}
use Rattle.std.proofs.lemmas.Result.{err_from_is_err_and}
use Rattle.gateway_loop.specs.private.Lines.{max_partial_line}
use Rattle.gateway_loop.proofs.LineSplitterLemmas.{nothing-kept, take-kept}
use Rattle.gateway_loop.proofs.LongLineLemmas.{TakesOrBreaks-truncated, length-strip_carriage_return}
use Rattle.gateway_loop.proofs.line_splitter.LineSplitter.process_ended_line.Goals as goal

pub returns-then-is_empty-clause-taken : goal.returns-then-is_empty-clause-taken
returns-then-is_empty-clause-taken g c = λ tail keeps.
    let tested = rw c.as_slice.ensures at c.is_empty.ensures in
    let none = eqb-true (length c.args.self.now.partial) 0 (sym tested ∙ c.if-is_empty.true) in
    rw (nothing-kept keeps none) (rw c.strip_carriage_return.ensures at c.process_line.ensures.taken)

pub returns-in_err-process_line-clause-taken : goal.returns-in_err-process_line-clause-taken
returns-in_err-process_line-clause-taken g c =
    let bytes = c.args.bytes.now in
    rw (err_from_is_err_and c.from_residual.result c.from_residual.ensures.1).1 (λ tail keeps.
    TakesOrBreaks-truncated g.S.DeviceStore.store_state g.O.ReplySink.output {A = Unit {0}} {E = Unit {0}} (Err tt)
    c.args.self.now.driver c.process_line-2.new.driver c.args.lines strip_carriage_return
    length-strip_carriage_return
    (take max_partial_line (c.args.self.now.partial ++ bytes)) (tail ++ bytes) (take-kept bytes keeps)
    (rw (
      c.strip_carriage_return-2.ensures,
      c.as_slice-2.ensures,
      c.extend.ensures,
    ) at c.in_err-process_line.ensures.taken))

pub returns-clause-taken : goal.returns-clause-taken
returns-clause-taken g c = λ tail keeps.
    let bytes = c.args.bytes.now in
    TakesOrBreaks-truncated g.S.DeviceStore.store_state g.O.ReplySink.output {A = Unit {0}} {E = Unit {0}} (Ok tt)
    c.args.self.now.driver c.process_line-2.new.driver c.args.lines strip_carriage_return
    length-strip_carriage_return
    (take max_partial_line (c.args.self.now.partial ++ bytes)) (tail ++ bytes) (take-kept bytes keeps)
    (rw (
      c.strip_carriage_return-2.ensures,
      c.as_slice-2.ensures,
      c.extend.ensures,
    ) at c.in_ok-process_line.ensures.taken)

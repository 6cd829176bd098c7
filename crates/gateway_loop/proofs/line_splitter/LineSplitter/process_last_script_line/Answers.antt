use Rattle.std.proofs.Common.{rules, length, sym, ◌∙◌}
use Rattle.std.proofs.lemmas.Bool.{eqb-true, eqb-false}
use Rattle.gateway_loop.proofs.LineSplitterLemmas.{takes_script-last, nothing-kept}
use Rattle.gateway_loop.proofs.ProcessingLemmas.{takes-nothing}
use Rattle.gateway_loop.proofs.line_splitter.LineSplitter.process_last_script_line.Goals as goal

pub returns-then-is_empty-clause-taken : goal.returns-then-is_empty-clause-taken
returns-then-is_empty-clause-taken g c = λ tail keeps.
    let tested = rw c.as_slice-line.ensures at c.is_empty.ensures in
    let none = eqb-true (length c.args.self.now.partial) 0 (sym tested ∙ c.if-is_empty.true) in
    rw (nothing-kept keeps none)
    (takes-nothing g.O.ReplySink.output c.args.self.now.driver c.requires (search rules))

pub returns-clause-taken : goal.returns-clause-taken
returns-clause-taken g c = λ tail keeps.
    let tested = rw c.as_slice-line.ensures at c.is_empty.ensures in
    let some = eqb-false (length c.args.self.now.partial) 0 (sym tested ∙ c.if-is_empty.false) in
    takes_script-last g.S.DeviceStore.store_state g.O.ReplySink.output c.process_script_line.result
    c.args.self.now.driver c.process_script_line.new.self keeps some
    (rw c.as_slice-line.ensures at c.process_script_line.ensures.taken)

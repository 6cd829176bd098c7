use Rattle.keyed_table.proofs.Common.{rules, ◌∙◌, subst, sym, MatchResult-from_err}
use Rattle.device_registry.proofs.Common.{IsMidTransaction}
use Rattle.std.proofs.lemmas.List.{map_more}
use Rattle.keyed_table.proofs.Statements.{uncommitted, one_more_text}
use Rattle.device_registry.proofs.transaction.run_all.Goals as goal

pub loop-text-preserved : goal.loop-text-preserved
loop-text-preserved g c = (
  c.execute.ensures.same_reference ∙ c.loop-text.invariant.0,
  subst (λ ts. IsMidTransaction g.S.Store ts c.args.ours.now.conn.now c.execute.new.self.conn.now)
      (sym (map_more (λ text. text.now) c.args.texts.now c.loop-text.text-index _ (search rules)))
      (one_more_text g.S.Store _ _ _ _ c.execute.new.self.conn.now c.execute.result c.loop-text.invariant.1
      c.execute.ensures.survives c.execute.ensures.runs _ c.in_ok-execute.was),
)

pub returns-in_err-execute-clause-inside : goal.returns-in_err-execute-clause-inside
returns-in_err-execute-clause-inside g c =
    MatchResult-from_err c.from_residual.result _ _ c.from_residual.ensures.0
    (λ _. uncommitted g.S.Store _ _ _ _ c.execute.new.self.conn.now c.execute.result c.loop-text.invariant.1
    c.execute.ensures.survives c.execute.ensures.runs)

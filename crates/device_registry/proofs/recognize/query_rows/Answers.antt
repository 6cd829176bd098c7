use Rattle.keyed_table.proofs.Common.{[], IfOk-weaker, never_commits, survives_weaker}
use Rattle.keyed_table.proofs.Statements.{failed_query_keeps_database, shown_same}
use Rattle.device_registry.proofs.TablesRecognized.{clean_before}
use Rattle.device_registry.proofs.recognize.query_rows.Goals as goal

pub returns-clause-shown : goal.returns-clause-shown
returns-clause-shown g c clean =
    let plain = c.requires (clean_before c.query_all.ensures.survives clean) in
    IfOk-weaker c.query_all.result _ _ (λ rows h. (h, shown_same c.args.sql.now [] _ _ plain rows.items h))
    (c.query_all.ensures.ok clean)

pub returns-clause-crash : goal.returns-clause-crash
returns-clause-crash g c =
    survives_weaker _ _ _ (λ _. ⊥) (λ clean trees.
    never_commits c.args.sql.now [] _ trees (c.requires (clean_before c.query_all.ensures.survives clean)))
    c.query_all.ensures.survives

pub returns-clause-remains : goal.returns-clause-remains
returns-clause-remains g c clean =
    failed_query_keeps_database c.args.sql.now [] _ _ c.query_all.result
    (c.requires (clean_before c.query_all.ensures.survives clean)) (c.query_all.ensures.err clean)

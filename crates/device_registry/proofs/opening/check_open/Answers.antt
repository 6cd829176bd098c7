use Rattle.keyed_table.proofs.Common.{rules, codes, []}
use Rattle.keyed_table.proofs.Statements.{not_run_kept}
use Rattle.device_registry.proofs.opening.check_open.Goals as goal

pub returns-in_err-_statement-clause-kept : goal.returns-in_err-_statement-clause-kept
returns-in_err-_statement-clause-kept g c clean =
    not_run_kept (codes "SELECT 1") [] _ _ c.from_residual.result _ (λ is_open. search rules)
    (c.in_err-_statement.ensures.err clean [])

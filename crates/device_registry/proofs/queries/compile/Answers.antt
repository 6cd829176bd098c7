use Rattle.keyed_table.proofs.Common.{◌≡◌, arith}
use Rattle.keyed_table.proofs.Statements.{compiled_stays, compiled_ready}
use Rattle.device_registry.proofs.queries.compile.Goals as goal

pub returns-clause-stays : goal.returns-clause-stays
returns-clause-stays g c =
    compiled_stays (λ s. s.text ≡ c.args.sql.now) c.args.sql.now _ _ c.prepare.result c.prepare.ensures.survives
    c.prepare.ensures.ok c.prepare.ensures.err

pub returns-clause-ready : goal.returns-clause-ready
returns-clause-ready g c clean =
    compiled_ready (λ s. s.text ≡ c.args.sql.now) c.args.sql.now _ _ c.prepare.result (c.prepare.ensures.ok clean)
    (c.requires (omega (arith, clean, c.prepare.ensures.survives.clean)))

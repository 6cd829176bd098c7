use Rattle.keyed_table.proofs.Common.{◌∙◌, sym, arith}
use Rattle.device_registry.proofs.Common.{forget_update}
use Rattle.keyed_table.proofs.RowsAsMap.{remove_absent}
use Rattle.device_registry.proofs.queries.delete_or_rewrite_if_absent.Goals as goal

pub returns-clause-turns : goal.returns-clause-turns
returns-clause-turns g c = c.rewrite_version.ensures.turns (forget_update c.args.id) (λ clean devices shows.
    remove_absent devices c.args.id (grind (arith, sym (c.requires.known clean devices shows) ∙ c.if-is_known.false)))

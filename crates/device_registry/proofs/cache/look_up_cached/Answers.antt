use Rattle.keyed_table.proofs.Common.{eqb-true, rules, eqb}
use Rattle.std.proofs.lemmas.Map.Views.{Contains-from_lookup}
use Rattle.lru.proofs.CallerLemmas.{Contains-promoted}
use Rattle.lru.proofs.Pairs.{promoted_absent}
use Rattle.device_registry.proofs.cache.look_up_cached.Goals as goal

pub returns-clause-known : goal.returns-clause-known
returns-clause-known c =
    rw c.copied.ensures (Contains-from_lookup eqb-true c.args.id c.in_ok-known.known.now c.args.cache.now.entries
    (search rules))

pub returns-clause-kept : goal.returns-clause-kept
returns-clause-kept c = search (rules, Contains-promoted (eqb c.args.id) c.args.cache.now.entries)

pub returns-in_err-known-clause-kept : goal.returns-in_err-known-clause-kept
returns-in_err-known-clause-kept c = search (rules, Contains-promoted (eqb c.args.id) c.args.cache.now.entries)

pub returns-in_err-known-clause-unchanged : goal.returns-in_err-known-clause-unchanged
returns-in_err-known-clause-unchanged c =
    search (rules, (promoted_absent eqb c.args.cache.now c.args.id (search rules)).1)

use Rattle.keyed_table.proofs.Common.{rules, ◌≡◌}
use Rattle.device_registry.proofs.RegistryMade.{migration_makes, ends, ran}
use Rattle.device_registry.proofs.migrate.migrate.Goals as goal

pub run_and_check_catalog-requires-clause-sound : goal.run_and_check_catalog-requires-clause-sound
run_and_check_catalog-requires-clause-sound g c mid clean at =
    (ran g.S.Store c.args.conn.now c.transaction-migrating.ensures.begun
    (λ clean. migration_makes g.S.Store c.args.conn.now (c.requires.first clean)) mid clean at).sound

pub returns : goal.returns
returns g c =
    let same : c.commit.new.self.0 ≡ c.conn-2-1.given.0 = search rules in
    let ended = rw same at (ends g.S.Store c.args.conn.now c.transaction-migrating.ensures.begun
    (λ clean. migration_makes g.S.Store c.args.conn.now (c.requires.first clean)) _ c.commit.result
    c.in_ok-run_and_check_catalog.ensures.inside c.commit.ensures.survives c.commit.ensures.ok c.commit.ensures.err) in
    record { made = ended.made; others = ended.others; crash = ended.crash; remains = ended.remains }

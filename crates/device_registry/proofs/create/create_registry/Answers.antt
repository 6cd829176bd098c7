use Rattle.keyed_table.proofs.Common.{rules, ◌≡◌, refl, on_ok_weaker, survives_weaker}
use Rattle.device_registry.proofs.RegistryMade.{creation_makes, ends, ran}
use Rattle.device_registry.proofs.create.create_registry.Goals as goal

pub run_and_check_catalog-requires-clause-sound : goal.run_and_check_catalog-requires-clause-sound
run_and_check_catalog-requires-clause-sound g c mid clean at =
    (ran g.S.Store c.args.conn.now c.transaction-making.ensures.begun
    (λ clean. creation_makes g.S.Store c.args.conn.now (c.requires.clear clean)) mid clean at).sound

pub returns : goal.returns
returns g c =
    let same : c.commit.new.self.0 ≡ c.conn-2-1.given.0 = search rules in
    let ended = ends g.S.Store c.args.conn.now c.transaction-making.ensures.begun
    (λ clean. creation_makes g.S.Store c.args.conn.now (c.requires.clear clean)) _ c.commit.result
    c.in_ok-run_and_check_catalog.ensures.inside c.commit.ensures.survives c.commit.ensures.ok c.commit.ensures.err in
    rw (← same) (record {
      made = λ clean. on_ok_weaker c.commit.result (λ shows. shows _ refl) (ended.made clean);
      others = ended.others;
      crash = survives_weaker _ _ _ _ (λ clean trees holds. holds _ refl) ended.crash;
      remains = ended.remains;
    })

use Rattle.keyed_table.proofs.Common.{◌∙◌, arith, refl, IfOk-weaker, HasCleanDisk, lookup_params}
use Rattle.device_registry.proofs.Common.{find_sql}
use Rattle.keyed_table.proofs.Statements.{compiled_query_stays, query_survives, query_ready, answered_same}
use Rattle.device_registry.proofs.DevicesHeld.{queries_are_plain, find-shows_device}
use Rattle.device_registry.proofs.queries.look_up.Goals as goal

pub returns : goal.returns
returns g c =
    let mid = g.C.SqlConnection.state c.compile.new.conn in
    let new = g.C.SqlConnection.state c.query_compiled_with_id.new.conn in
    let params = lookup_params c.args.id in
    let compiled = c.in_ok-find.ensures in
    let query = c.query_compiled_with_id.ensures in
    let plain = λ (clean : HasCleanDisk mid). (queries_are_plain (compiled.ready clean)).0 in
    let before : HasCleanDisk new → HasCleanDisk mid = λ clean. omega (arith, clean, query.survives.clean) in
    record {
      stays = compiled_query_stays find_sql _ _ _ _ _ _ _ c.compile.ensures.stays compiled.text plain query.survives
          query.shown query.failed;
      same = λ clean. answered_same find_sql _ _ _ mid _ _ _ (compiled.same (before clean))
          (compiled.text (before clean)) (plain (before clean)) (query.shown clean);
      counted = λ clean. query.counted (rw (compiled.text (before clean)) refl) ∙ c.compile.ensures.counted;
      survives = query_survives find_sql _ _ _ _ _ c.compile.ensures.survives compiled.text plain query.survives;
      found = λ clean.
          let early = before clean in
          let ready = compiled.ready early in
          let shown_before = (c.compile.ensures.stays.goes_on early ready.shows.is_open).1 in
          IfOk-weaker c.query_compiled_with_id.result _ _ (λ rows shown.
          let found = rw (compiled.text early) at shown in (
            query_ready find_sql params mid new rows.items (plain early) ready found,
            λ devices shows. find-shows_device new rows.items (shown_before devices shows) c.args.id found,
          )) (query.shown clean);
    }

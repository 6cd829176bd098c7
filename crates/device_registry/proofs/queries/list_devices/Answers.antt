use Rattle.keyed_table.proofs.Common.{◌∙◌, arith, [], refl, IfOk-weaker, HasCleanDisk}
use Rattle.device_registry.proofs.Common.{Second, find_all_sql}
use Rattle.keyed_table.proofs.Statements.{compiled_query_stays, query_ready}
use Rattle.device_registry.proofs.DevicesHeld.{queries_are_plain, list-shows_devices}
use Rattle.device_registry.proofs.queries.list_devices.Goals as goal

pub returns : goal.returns
returns g c =
    let mid = g.C.SqlConnection.state c.compile.new.conn in
    let new = g.C.SqlConnection.state c.query_all_prepared.new.self in
    let compiled = c.in_ok-all.ensures in
    let query = c.query_all_prepared.ensures in
    record {
      stays = compiled_query_stays (find_all_sql Second) _ _ _ _ _ _ _ c.compile.ensures.stays compiled.text
          (λ clean. (queries_are_plain (compiled.ready clean)).2) query.survives query.ok query.err;
      counted = λ clean. query.counted (rw (compiled.text (omega (arith, clean, query.survives.clean))) refl)
          ∙ c.compile.ensures.counted;
      all = λ clean.
          let early : HasCleanDisk mid = omega (arith, clean, query.survives.clean) in
          let ready = compiled.ready early in
          let shown_before = (c.compile.ensures.stays.goes_on early ready.shows.is_open).1 in
          IfOk-weaker c.query_all_prepared.result _ _ (λ rows shown.
          let all = rw (compiled.text early) at shown in (
            query_ready (find_all_sql Second) [] mid new rows.items (queries_are_plain ready).2 ready all,
            λ devices shows. list-shows_devices new rows.items (shown_before devices shows) all,
          )) (query.ok clean);
    }

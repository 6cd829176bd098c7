use Rattle.keyed_table.proofs.Common.{refl, rules, arith, lookup_params}
use Rattle.device_registry.proofs.Common.{count_others_sql}
use Rattle.keyed_table.proofs.Statements.{query_ready, query_stays}
use Rattle.device_registry.proofs.DevicesHeld.{queries_are_plain, count-decides_full}
use Rattle.device_registry.proofs.queries.is_full_for.Goals as goal

pub returns-in_err-rows-clause-stays : goal.returns-in_err-rows-clause-stays
returns-in_err-rows-clause-stays g c =
    query_stays _ _ _ _ _ _ (λ clean. (queries_are_plain (c.requires clean)).1) c.query_with_id.ensures.survives
    c.query_with_id.ensures.shown c.query_with_id.ensures.failed

pub returns-in_err-shown_count-clause-stays : goal.returns-in_err-shown_count-clause-stays
returns-in_err-shown_count-clause-stays g c =
    query_stays _ _ _ _ _ _ (λ clean. (queries_are_plain (c.requires clean)).1) c.query_with_id.ensures.survives
    c.query_with_id.ensures.shown c.query_with_id.ensures.failed

pub returns : goal.returns
returns g c =
    let query = c.query_with_id.ensures in
    let counted = c.in_ok-shown_count.ensures.number in
    record {
      stays = query_stays _ _ _ _ _ _ (λ clean. (queries_are_plain (c.requires clean)).1) query.survives query.shown
          query.failed;
      counted = query.counted refl;
      full = λ clean.
          let ready = c.requires (omega (arith, clean, query.survives.clean)) in
          let shown = c.in_ok-rows.ensures.shown clean in (
            query_ready count_others_sql (lookup_params c.args.id) _ _ _ (queries_are_plain ready).1 ready shown,
            λ devices shows. count-decides_full _ _ shows _ _ counted.0 counted.1 shown (search rules) counted.3,
          );
    }

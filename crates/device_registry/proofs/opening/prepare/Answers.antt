use Rattle.keyed_table.proofs.Common.{rules, sym, ◌∙◌, on_ok_weaker, HasCleanDisk}
use Rattle.std.proofs.lemmas.Result.{err_from_is_err_and}
use Rattle.sqlite_rules.proofs.ViewLemmas.{on_ok_both}
use Rattle.device_registry.proofs.OpenCalls.{checked_is_committed, opened-from_prepared, fails-without_commit}
use Rattle.device_registry.proofs.OpenCalls.{fails-after_check, keeps_rows_from_earlier}
use Rattle.device_registry.proofs.TablesRecognized.{clean_before}
use Rattle.device_registry.proofs.opening.prepare.Goals as goal

pub returns-in_err-check_open-clause-failed : goal.returns-in_err-check_open-clause-failed
returns-in_err-check_open-clause-failed g c =
    let why = err_from_is_err_and c.from_residual.result c.from_residual.ensures.1 in
    rw why.1 (fails-without_commit _ _ why.0 (λ is. let e = sym why.2 ∙ is in cc) c.check_open.ensures.crash)

pub returns : goal.returns
returns g c =
    let made = c.create_or_recognize.ensures in
    let was = λ (clean : HasCleanDisk (g.C.SqlConnection.state c.create_or_recognize.new.conn)).
    c.in_ok-check_open.ensures.same (clean_before made.crash clean) in
    record {
      clean = search rules;
      opened = λ clean. on_ok_both c.create_or_recognize.result (opened-from_prepared (was clean)
          (g.met.C.SqlConnection.settled c.create_or_recognize.new.conn) c.check_open.ensures.crash)
          (made.prepared clean) (made.written clean);
      rows = λ clean. on_ok_weaker c.create_or_recognize.result (λ kept held.
          keeps_rows_from_earlier (was clean).0 (kept (rw (checked_is_committed (was clean)) held))) (made.rows clean);
      others = λ clean. rw (was clean).0.0.now_is at made.others clean;
      kept = search rules;
      failed = fails-after_check c.create_or_recognize.result _ _ _ c.in_ok-check_open.ensures.same
          c.check_open.ensures.crash made.crash made.rejected made.unchanged;
    }

use Rattle.keyed_table.proofs.Common.{rules, [], inl, inr, sym, subst, MatchResult-from_err, Database}
use Rattle.device_registry.proofs.Common.{AreTablesListed, list_objects_sql}
use Rattle.keyed_table.proofs.ListedTables.{listing_plain}
use Rattle.keyed_table.proofs.Statements.{not_shown, shown_same}
use Rattle.device_registry.proofs.RegistryMade.{still_uncommitted}
use Rattle.device_registry.proofs.TablesRecognized.{clean_before, listed_rows-decide}
use Rattle.device_registry.proofs.transaction.run_and_check_catalog.Goals as goal

pub returns-in_err-rows-clause-inside : goal.returns-in_err-rows-clause-inside
returns-in_err-rows-clause-inside g c =
    MatchResult-from_err c.from_residual-in_err-rows.result _ _ c.from_residual-in_err-rows.ensures.0 (λ _.
    still_uncommitted g.S.Store c.query_all.new.self.conn.now c.in_ok-run_all.ensures.inside
    c.query_all.ensures.survives (λ clean.
    elim (c.in_err-rows.ensures.err clean) [
      | inl fails ↦ not_shown list_objects_sql [] _ _ (listing_plain _ (c.requires.sound _
          (clean_before c.query_all.ensures.survives clean) c.in_ok-run_all.ensures.inside)) _ fails
      | inr late ↦ inl late.5
    ]))

pub returns-then-not-list_our_tables-clause-inside : goal.returns-then-not-list_our_tables-clause-inside
returns-then-not-list_our_tables-clause-inside g c =
    still_uncommitted g.S.Store c.query_all.new.self.conn.now c.in_ok-run_all.ensures.inside
    c.query_all.ensures.survives (λ clean. inl (shown_same list_objects_sql [] _ _ (listing_plain _
    (c.requires.sound _ (clean_before c.query_all.ensures.survives clean) c.in_ok-run_all.ensures.inside)) _
    (c.in_ok-rows.ensures.ok clean)))

pub returns-clause-inside : goal.returns-clause-inside
returns-clause-inside g c = record {
  mid = _;
  made = c.in_ok-run_all.ensures.inside;
  crash = c.query_all.ensures.survives;
  same = λ clean. shown_same list_objects_sql [] _ _ (listing_plain _
      (c.requires.sound _ (clean_before c.query_all.ensures.survives clean) c.in_ok-run_all.ensures.inside)) _
      (c.in_ok-rows.ensures.ok clean);
  tables_listed = λ clean.
      let sound = c.requires.sound _ (clean_before c.query_all.ensures.survives clean) c.in_ok-run_all.ensures.inside in
      let shown = c.in_ok-rows.ensures.ok clean in
      let same = shown_same list_objects_sql [] _ _ (listing_plain _ sound) _ shown in
      subst (λ (db : Database). AreTablesListed c.args.version db.trees) (sym same.0.now_is)
      ((listed_rows-decide c.args.version _ _ _ sound shown).0 (search rules));
}

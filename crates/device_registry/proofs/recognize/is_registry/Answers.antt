use Rattle.keyed_table.proofs.Common.{rules, IfOk-weaker, unchanged_then}
use Rattle.device_registry.proofs.TablesRecognized.{clean_before, IsRegistry-from_trees, tables_listed}
use Rattle.device_registry.proofs.recognize.is_registry.Goals as goal

pub returns-then-not-branch-clause-other : goal.returns-then-not-branch-clause-other
returns-then-not-branch-clause-other g c clean none own = absurd (c.lists_our_tables.ensures.other clean (search rules)
    (IsRegistry-from_trees _ _
    (c.requires.rest (clean_before c.lists_our_tables.ensures.crash clean)) own).tables_listed)

pub has_valid_rows-requires : goal.has_valid_rows-requires
has_valid_rows-requires g c clean =
    let early = clean_before c.lists_our_tables.ensures.crash clean in
    let got = c.in_ok-lists_our_tables.ensures.ours clean in
    rw got.0.0.now_is (tables_listed _ (c.requires.rest early).sound c.args.version (c.requires.tables early)
    (got.1 (search rules)))

pub returns-clause-ours : goal.returns-clause-ours
returns-clause-ours g c clean =
    let between = clean_before c.has_valid_rows.ensures.crash clean in
    let early = clean_before c.lists_our_tables.ensures.crash between in
    let got = c.in_ok-lists_our_tables.ensures.ours between in
    let listed = got.1 (search rules) in
    let tables = tables_listed _ (c.requires.rest early).sound c.args.version (c.requires.tables early) listed in
    IfOk-weaker c.has_valid_rows.result _ _ (λ valid h. (
      unchanged_then _ _ _ got.0 h.0,
      λ is. record { tables = tables; valid_rows = (rw got.0.0.now_is at (h.1 is)) tables; tables_listed = listed },
    )) (c.has_valid_rows.ensures.whole clean)

pub returns-clause-other : goal.returns-clause-other
returns-clause-other g c clean none own =
    let between = clean_before c.has_valid_rows.ensures.crash clean in
    let rest = c.requires.rest (clean_before c.lists_our_tables.ensures.crash between) in
    let registry = IsRegistry-from_trees c.args.version _ rest own in
    (rw (c.in_ok-lists_our_tables.ensures.ours between).0.0.now_is at (c.has_valid_rows.ensures.other clean none))
    registry.tables registry.valid_rows

use Rattle.keyed_table.proofs.Common.{rules}
use Rattle.keyed_table.proofs.ListedTables.{listing_plain}
use Rattle.device_registry.proofs.TablesRecognized.{clean_before, listed_rows-decide}
use Rattle.device_registry.proofs.recognize.lists_our_tables.Goals as goal

pub query_rows-requires : goal.query_rows-requires
query_rows-requires g c clean = listing_plain (g.C.SqlConnection.state c.args.conn.now).now (c.requires clean)

pub returns-clause-ours : goal.returns-clause-ours
returns-clause-ours g c clean =
    let sound = c.requires (clean_before c.query_rows.ensures.crash clean) in
    let show = c.in_ok-rows.ensures.shown clean in
    (show.1, λ yes. (listed_rows-decide c.args.version _ _ _ sound show.0).0 (search rules))

pub returns-clause-other : goal.returns-clause-other
returns-clause-other g c clean none listed =
    let sound = c.requires (clean_before c.query_rows.ensures.crash clean) in
    absurd (search (rules, none, (listed_rows-decide _ _ _ _ sound (c.in_ok-rows.ensures.shown clean).0).1 listed))

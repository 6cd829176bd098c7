use Rattle.std.proofs.lemmas.Grind.{common_steps}
use Rattle.keyed_table.proofs.Common.{◌≡◌, ◌+◌, ℕ, true, ◌≤◌, List, [], ◌∷◌, map, length, refl, ap, ◌∙◌, arith, rules}
use Rattle.keyed_table.proofs.Common.{length-map, length_permutation, IsPermutation-sym, IsPermutation-map}
use Rattle.keyed_table.proofs.Common.{AllByRecursion, unchanged_then, Database, Row, column, overlay, IsAnswer, State}
use Rattle.keyed_table.proofs.Common.{Shown, IsUnchanged, all_both, all_weaker, all-permutation, ascending-map, IsTable}
use Rattle.device_registry.proofs.Common.{max_devices, HasTables, HasValidRows, find_all_sql, read_version_sql}
use Rattle.device_registry.proofs.Common.{RowidsDiffer, IsDeviceRow, upgraded_rows, with_empty_label, natural_in}
use Rattle.device_registry.proofs.Common.{are_ascending_devices, Version, First, Second}
use Rattle.std.proofs.lemmas.Bool.{le-leb, leb-true}
use Rattle.std.specs.List.Sorted.{IsPermutation}
use Rattle.sqlite_trees.proofs.ListLemmas.{pull_back}
use Rattle.keyed_table.proofs.RowsAsMap.{shows_one, one_shown, ranked, ranked_rises, ranked_permutes, differ_from}
use Rattle.keyed_table.proofs.RowsAsMap.{keyed_turned, key_below}
use Rattle.keyed_table.proofs.KeyedMap.{answer_of}
use Rattle.device_registry.proofs.StatementMeanings.{find_all-means, version_query, version_means}
use Rattle.device_registry.proofs.DeviceRows.{key_of, keyed, stored_keyed, device_is, device_shows}
use Rattle.device_registry.proofs.DevicesHeld.{all_query-ascends, all_query-shows_devices}
use Rattle.device_registry.proofs.StatementTexts.{all_query, shown}
use Rattle.device_registry.proofs.TablesRecognized.{clean_before}
use Rattle.device_registry.specs.Table.Rows.{ShowsVersion}
use Rattle.device_registry.proofs.recognize.has_valid_rows.Goals as goal

-- ---- ascending rows

-- ascending rows are devices, and no two have the same rowid
ascending-are_devices : (least : ℕ) (rows : List Row) → are_ascending_devices least (map shown rows) ≡ true
    → AllByRecursion IsDeviceRow rows × AllByRecursion (λ row. least ≤ natural_in (column row 0)) rows
    × RowidsDiffer rows
ascending-are_devices least [] ascends = (tt, tt, tt)
ascending-are_devices least (row ∷ rows) ascends =
    let up = leb-true least (natural_in (column row 0)) (grind (arith, ascends)) in
    let (all, above, differ) = ascending-are_devices (natural_in (column row 0) + 1) rows (grind (arith, ascends)) in (
      (device_is row (grind (arith, ascends)), all),
      (up, all_weaker _ _ (λ other high. omega (arith, up, high)) rows above),
      (all_weaker _ _ (λ other high same. let e = ap natural_in same in omega (arith, high, e)) rows above, differ),
    )

-- rows of devices in ascending order of rowid are shown in ascending order of sender
devices-ascend : (least : ℕ) (rows : List Row) → AllByRecursion IsDeviceRow rows → IsTable rows
    → AllByRecursion (λ row. least ≤ natural_in (column row 0)) rows
    → are_ascending_devices least (map shown rows) ≡ true
devices-ascend least [] all up high = refl
devices-ascend least (row ∷ rows) all up high =
    let next = all_both _ _ (λ other. natural_in (column row 0) + 1 ≤ natural_in (column other 0)) (λ other is less.
    let above = key_below row other (key_of row all.0) (key_of other is) less in omega (arith, above)) rows all.1
    up.0 in
    let rest = devices-ascend (natural_in (column row 0) + 1) rows all.1 up.1 next in
    rw (device_shows row all.0, le-leb least (natural_in (column row 0)) high.0, rest) refl

-- the rows of either version, in ascending order of rowid
ranked-ascends : (version : Version) (rows : List Row) → IsPermutation rows (ranked rows)
    → AllByRecursion IsDeviceRow (upgraded_rows version rows)
    → are_ascending_devices 0 (map shown (upgraded_rows version (ranked rows))) ≡ true
ranked-ascends First rows same all =
    let there = all-permutation IsDeviceRow _ _ (IsPermutation-map with_empty_label rows _ same) all in
    devices-ascend 0 _ there (ascending-map _ with_empty_label (ranked rows) (ranked_rises rows))
    (all_weaker _ _ (λ row is. omega arith) _ there)
ranked-ascends Second rows same all =
    let there = all-permutation IsDeviceRow rows _ same all in
    devices-ascend 0 _ there (ranked_rises rows) (all_weaker _ _ (λ row is. omega arith) _ there)

-- ---- the two queries

module _ {version : Version} (old mid : State) (versions : List Row) (t : HasTables version old.now.schema)
    (shown_version : Shown read_version_sql [] old mid versions) where
  version_reads : IsAnswer (version_query t.meta) (overlay old.now.trees []) [] versions
  version_reads = answer_of [] old mid versions (version_means old.now.schema t.meta_at t.meta t.meta_is_table) refl
      shown_version

  module _ (new : State) (devices : List Row) {sql : List ℕ} (is : sql ≡ find_all_sql version)
      (same : IsUnchanged old mid) (shown_devices : Shown sql [] mid new devices) where
    abbrev table : List Row
    table = upgraded_rows version (old.now.trees t.devices)

    devices_read : IsAnswer (all_query version t.devices) (overlay old.now.trees []) [] devices
    devices_read = rw same.0.now_is at (answer_of [] mid new devices
        (find_all-means version old.now.schema t.devices_at t.devices t.devices_are_table)
        (ap (λ (d : Database). d.schema) same.0.now_is) (rw is at shown_devices))

    all_shown : IsPermutation (map shown table) devices
    all_shown = all_query-shows_devices version t.devices old.now.trees devices devices_read

    -- as many rows are shown as there are
    shown_count : length devices ≡ length table
    shown_count = length_permutation _ devices all_shown ∙ length-map _ shown

    shown-are_valid : ShowsVersion version versions → length devices ≤ max_devices
        → are_ascending_devices 0 devices ≡ true → HasValidRows version old.now.trees t.meta t.devices
    shown-are_valid shows few rise =
        let (row, one_row, is) = one_shown old.now.trees shows.row shows.are version_reads in
        -- the rows are devices, no two with the same rowid, in the order in which they are shown
        let to = pull_back shown (map shown table) devices all_shown table refl in
        let are = ascending-are_devices 0 to.0 (rw to.2 at rise) in
        let back = IsPermutation-sym table to.0 to.1 in
        record {
          row = row;
          one_version_row = one_row;
          version_row_valid = search (rules, is, shows.key, shows.number);
          rows = all-permutation IsDeviceRow to.0 table back are.0;
          ids_differ = differ_from table (keyed_turned to.0 table back (keyed to.0 are.0 are.2)).apart;
          at_most_max_devices = omega (arith, few, shown_count);
        }

    -- a registry's devices are shown in ascending order
    valid-ascends : HasValidRows version old.now.trees t.meta t.devices → are_ascending_devices 0 devices ≡ true
    valid-ascends valid =
        let stored = old.now.trees t.devices in
        let there = stored_keyed version stored valid.rows valid.ids_differ in
        ap (are_ascending_devices 0) (all_query-ascends version t.devices old.now.trees devices devices_read valid.rows
        valid.ids_differ)
        ∙ ranked-ascends version stored (ranked_permutes stored there) valid.rows

pub query_rows-requires : goal.query_rows-requires
query_rows-requires g c clean =
    let t = c.requires clean in (version_means _ t.meta_at t.meta t.meta_is_table).is_plain

pub query_rows-requires-2 : goal.query_rows-requires-2
query_rows-requires-2 g c clean =
    let t = c.requires (clean_before c.query_rows.ensures.crash clean) in
    rw (c.find_all_sql.ensures, (c.in_ok-versions.ensures.shown clean).1.0.now_is)
    (find_all-means c.args.version _ t.devices_at t.devices t.devices_are_table).is_plain

pub returns-then-not-shows_version-clause-other : goal.returns-then-not-shows_version-clause-other
returns-then-not-shows_version-clause-other g c clean none t valid =
    absurd (search (
      rules,
      c.shows_version.ensures.complete,
      shows_one _ valid.row valid.one_version_row
          (version_reads _ _ _ t (c.in_ok-versions.ensures.shown clean).0),
    ))

pub returns-clause-whole : goal.returns-clause-whole
returns-clause-whole g c clean =
    let first = c.in_ok-versions.ensures.shown (clean_before c.query_rows-2.ensures.crash clean) in
    let second = c.in_ok-devices.ensures.shown clean in (
      unchanged_then _ _ _ first.1 second.1,
      λ yes t. shown-are_valid _ _ _ t first.0 _ _ c.find_all_sql.ensures first.1 second.0 (search rules) (search rules)
          (search rules),
    )

pub returns-then-len-gt-MAX_DEVICES-clause-other : goal.returns-then-len-gt-MAX_DEVICES-clause-other
returns-then-len-gt-MAX_DEVICES-clause-other g c clean none t valid =
    let seen = c.in_ok-versions.ensures.shown (clean_before c.query_rows-2.ensures.crash clean) in
    let count = shown_count _ _ _ t seen.0 _ _ c.find_all_sql.ensures seen.1 (c.in_ok-devices.ensures.shown clean).0 in
    grind (arith, common_steps, count, valid.at_most_max_devices)

pub returns-clause-other : goal.returns-clause-other
returns-clause-other g c clean none t valid =
    let first = c.in_ok-versions.ensures.shown (clean_before c.query_rows-2.ensures.crash clean) in
    absurd (search (
      rules,
      none,
      valid-ascends _ _ _ t first.0 _ _ c.find_all_sql.ensures first.1
          (c.in_ok-devices.ensures.shown clean).0 valid,
    ))

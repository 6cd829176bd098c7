-- The rows of a table with an integer key as a map: the operations on the rows, and the rows that the queries show.
use Rattle.keyed_table.proofs.Common.{append-nil, ◌++◌, ◌≡◌, ◌≢◌, ℕ, pos, true, false, not, List, [], ◌∷◌, map, length}
use Rattle.keyed_table.proofs.Common.{Some, None, Option, refl, sym, ap, ◌∙◌, ◌⊎◌, inl, inr, ◌<◌, ℤ, filter, arith}
use Rattle.keyed_table.proofs.Common.{nat_cmp, is_eq, IsPermutation, Bool, ◌&&◌, entries, empty, len, get, insert}
use Rattle.keyed_table.proofs.Common.{remove, FinMap, cases_Bool, IsPermutation-sym, IsPermutation-trans}
use Rattle.keyed_table.proofs.Common.{length_permutation, IsPermutation-map, same_rowid, all_from, all_has, has_right}
use Rattle.keyed_table.proofs.Common.{without_all, AllByRecursion, flat_map, AllZip, nat_cmp_total, ints, nat_tests}
use Rattle.keyed_table.proofs.Common.{length-map, Int, Row, value_cmp-Int, IsTable, put_row, rowid, Trees}
use Rattle.keyed_table.proofs.Common.{all-permutation, all-filter, all_both, all_weaker, map-map, ascending-map, HasKey}
use Rattle.keyed_table.proofs.Common.{are_tied, AreKeyed, map_of, Collation, Binary, IsAnswer, overlay, eval_all}
use Rattle.keyed_table.proofs.Common.{from_truth, count, Compare, rows_query, lookup_params, find_query, all_query}
use Rattle.keyed_table.proofs.Common.{count_others_query, false_from_ne_true, Null}
use Rattle.std.proofs.Common.{Less, int_cmp, cond, Ordering}
use Rattle.std.specs.FinMap.{get-empty, put, len-entries, len-empty, entries-insert, same_map, nat_cmp-IsAntisymmetric}
use Rattle.std.specs.FinMap.{get-insert, get-remove}
use Rattle.std.proofs.lemmas.List.Sorted.{IsPermutation-append_right, IsPermutation-refl, IsPermutation-cons}
use Rattle.std.proofs.lemmas.List.Sorted.{IsPermutation-middle}
use Rattle.sqlite_catalog.proofs.LayoutLemmas.{ascending_filter}
use Rattle.sqlite_rules.proofs.ActionLemmas.{nil_from_length}
use Rattle.sqlite_rules.specs.Edit.{put_all}
use Rattle.std.specs.List.{list_all}
use Rattle.std.specs.Ordering.{eq_by_cmp, is_ne}
use Rattle.std.proofs.lemmas.Cmp.{tied_itself}
use Rattle.std.proofs.lemmas.List.Folds.{fold_along}
use Rattle.sqlite.specs.Order.{value_cmp}
use Rattle.sqlite_value.proofs.OrderLemmas.{value_cmp_total}
use Rattle.sqlite_trees.specs.Tree.{without_rowid, has_rowid}
use Rattle.sqlite_trees.proofs.ListLemmas.{filter_none, along_permutation, ascending_weaker, filter_all, all_of}
use Rattle.keyed_table.specs.Rows.{natural_in, key_in, HasNewKey, RowidsAreUntied, entry_of, RowidsDiffer}
use Rattle.std.specs.Cmp.{eq_by_cmp_equiv}
use Rattle.sqlite_trees.proofs.TreeLemmas.{IsTable-put_row}
use Rattle.sqlite_exec.proofs.RunLemmas.{none_given}
use Rattle.sqlite.specs.Query.{output, output_cmp, Output}
use Rattle.sqlite_value.specs.declared.keys.Key.{Key}
use Rattle.sqlite_sql.specs.Term.{Term, Env, eval, holds, lit, col, op2}
use Rattle.sqlite_sql.specs.Ops.{binary, is_true, test}
use Rattle.sqlite_sql.specs.Group.{IsSummary}
use Rattle.sqlite_sql.specs.declared.ops.CompareOp.{CompareOp}
use Rattle.sqlite_sql.specs.declared.ops.CompareOp.TheVariants.{Eq}
use Rattle.sqlite_sql.proofs.QueryLemmas.{output_cmp_total}
use Rattle.sqlite_keyed.proofs.SortLemmas.{sorted_unique}
use Rattle.sqlite.proofs.Callers.{one_permutation}
use Rattle.keyed_table.specs.Queries.{key_differs_from_param, count_rows}

untied : (a b : Row) → are_tied a b ≡ false → are_tied b a ≡ false
untied a b h = sym ((eq_by_cmp_equiv value_cmp_total).symm (rowid a) (rowid b)) ∙ h

-- inserting a row with a new key adds it to the rows, in some order
put_permutes : (new : Row) (rows : List Row) → HasNewKey new rows → IsPermutation (new ∷ rows) (put_row new rows)
put_permutes new [] free = IsPermutation-refl (new ∷ [])
put_permutes new (r ∷ rows) free =
    let later = IsPermutation-trans _ _ _ (IsPermutation-middle (new ∷ []) r rows)
    (IsPermutation-cons r _ _ (put_permutes new rows free.1)) in
    grind (arith, IsPermutation-refl)

pub key_is : (row : Row) (it : HasKey row) → key_in row ≡ it.id
key_is row it = ap natural_in it.id_is

-- the test of a rowid is that of the key
is_at : (id : ℕ) (row : Row) (it : HasKey row) → has_rowid (pos id) row ≡ eq_by_cmp nat_cmp id (key_in row)
is_at id row it = rw (it.id_is, value_cmp-Int (pos it.id) (pos id)) (grind (arith, ints, nat_tests))

-- if each row has a key and the rowids are different, SQL also compares the rowids as different
pub apart_from : (rows : List Row) → AllByRecursion HasKey rows → RowidsDiffer rows → RowidsAreUntied rows
apart_from [] all differ = tt
apart_from (row ∷ rows) all differ = (
  all_both HasKey (λ r. rowid row ≢ rowid r) (λ r. are_tied row r ≡ false)
      (λ r key other. false_from_ne_true _ (λ tie.
      let same = same_rowid row all.0.id key.id all.0.id_is (rw key.id_is at tie) in
      other (all.0.id_is ∙ ap (λ n. Int (pos n)) same ∙ sym key.id_is))) rows all.1 differ.0,
  apart_from rows all.1 differ.1,
)

pub differ_from : (rows : List Row) → RowidsAreUntied rows → RowidsDiffer rows
differ_from = ascending_weaker (λ a b. are_tied a b ≡ false) (λ a b. rowid a ≢ rowid b)
    (search (arith, tied_itself, value_cmp_total))

pub key_below : (a b : Row) → HasKey a → HasKey b → value_cmp (rowid a) (rowid b) ≡ Less → key_in a < key_in b
key_below a b x y below =
    let less : int_cmp (pos x.id) (pos y.id) ≡ Less =
    sym (value_cmp-Int (pos x.id) (pos y.id)) ∙ rw (x.id_is, y.id_is) at below in
    rw (key_is a x, key_is b y) (grind (arith, ints, nat_tests))

-- deletions leave the rows keyed
pub keyed_without : (rows : List Row) (id : ℤ) → AreKeyed rows → AreKeyed (without_rowid id rows)
keyed_without rows id keyed = search (all-filter, ascending_filter)

pub keyed_without_all : (rows : List Row) (gone : List ℤ) → AreKeyed rows → AreKeyed (without_all rows gone)
keyed_without_all rows [] keyed = keyed
keyed_without_all rows (id ∷ gone) keyed = keyed_without_all (without_rowid id rows) gone (keyed_without rows id keyed)

module _ {V : Type 0} where
  same : (m n : FinMap nat_cmp V) → ((q : ℕ) → get m q ≡ get n q) → m ≡ n
  same = same_map nat_cmp_total nat_cmp-IsAntisymmetric

  ruleset looks = (get-insert, get-remove, nat_cmp_total)

  -- removing a key that the map does not have changes nothing
  pub remove_absent : (m : FinMap nat_cmp V) (id : ℕ) → get m id ≡ None → remove m id ≡ m
  remove_absent m id none = same _ _ (λ q. simp looks (grind (arith, nat_tests)))

module _ {V : Type 0} (value : Row → V) where
  -- the rows in another order; if they are keyed, their map is the same
  abbrev HaveSameMap : List Row → List Row → Type 0
  HaveSameMap xs ys = IsPermutation xs ys × (AreKeyed xs → AreKeyed ys × (map_of value xs ≡ map_of value ys))

  permutation_keeps_map : (xs ys : List Row) → IsPermutation xs ys → HaveSameMap xs ys
  permutation_keeps_map = along_permutation HaveSameMap (search IsPermutation-refl)
      (λ x xs ys h. (
        IsPermutation-cons x xs ys h.0,
        λ keyed.
            let rest = h.1 (record { keys = keyed.keys.1; apart = keyed.apart.1 }) in
            let apart = all-permutation (λ b. are_tied x b ≡ false) xs ys h.0 keyed.apart.0 in
            search,
      ))
      (λ x y xs. (
        IsPermutation-middle (x ∷ []) y xs,
        λ keyed.
            let own : rowid y ≡ Int (pos (key_in y)) = rw (key_is y keyed.keys.1.0) keyed.keys.1.0.id_is in
            let other = sym (is_at (key_in y) x keyed.keys.0) ∙ rw own at keyed.apart.0.0 in
            (search untied, same _ _ (λ q. simp looks (grind (arith, nat_tests)))),
      ))
      (λ xs ys zs first second. search (arith, IsPermutation-trans))

pub keyed_turned : (xs ys : List Row) → IsPermutation xs ys → AreKeyed xs → AreKeyed ys
keyed_turned xs ys turn keyed = ((permutation_keeps_map key_in xs ys turn).1 keyed).0

-- the rows in ascending order of rowid
abbrev pub ranked : List Row → List Row
ranked = put_all []

pub ranked_rises : (rows : List Row) → IsTable (ranked rows)
ranked_rises rows = fold_along (λ rows r. put_row r rows) (λ c r. c) (λ there (c : Unit {0}). IsTable there)
    (λ there c row. IsTable-put_row row there) [] tt rows tt

pub ranked_permutes : (rows : List Row) → AreKeyed rows → IsPermutation rows (ranked rows)
ranked_permutes rows keyed = rw append-nil at (puts rows [] (rw append-nil keyed))
  where
    puts : (rows there : List Row) → AreKeyed (rows ++ there) → IsPermutation (rows ++ there) (put_all there rows)
    puts [] there keyed = IsPermutation-refl there
    puts (new ∷ rows) there keyed =
        let free : HasNewKey new there = all_from _ there (λ r has.
        untied new r (all_has _ (rows ++ there) r keyed.apart.0 (has_right rows there r has))) in
        let turn = IsPermutation-trans _ _ _ (IsPermutation-sym _ _ (IsPermutation-middle rows new there))
        (IsPermutation-append_right rows _ _ (put_permutes new there free)) in
        IsPermutation-trans _ _ _ turn (puts rows (put_row new there) (keyed_turned _ _ turn keyed))

module _ {V : Type 0} (value : Row → V) where
  pub same_map_of : (xs ys : List Row) → IsPermutation xs ys → AreKeyed xs → map_of value xs ≡ map_of value ys
  same_map_of xs ys turn keyed = ((permutation_keeps_map value xs ys turn).1 keyed).1

  pub put_keeps_map : (new : Row) (rows : List Row) → HasKey new → HasNewKey new rows → AreKeyed rows
      → AreKeyed (put_row new rows)
      × (insert (map_of value rows) (key_in new) (value new) ≡ map_of value (put_row new rows))
  put_keeps_map new rows key free keyed = (permutation_keeps_map value (new ∷ rows) (put_row new rows)
      (put_permutes new rows free)).1 (search (all_weaker, untied))

  pub map_without : (rows : List Row) (id : ℕ) → AllByRecursion HasKey rows
      → map_of value (without_rowid (pos id) rows) ≡ remove (map_of value rows) id
  map_without [] id all = sym (remove_absent empty id (get-empty nat_cmp id))
  map_without (row ∷ rows) id all =
      rw (is_at id row all.0) (elim (cases_Bool (eq_by_cmp nat_cmp id (key_in row))) [
        | inl tie ↦ rw (tie, map_without rows id all.1) (same _ _ (λ q. simp looks (grind (arith, nat_tests))))
        | inr apart ↦ rw (apart, map_without rows id all.1) (same _ _ (λ q. simp looks (grind (arith, nat_tests))))
      ])

  -- an insertion has the same result if rows with its key are deleted first
  pub insert_without : (rows : List Row) (gone : List ℤ) (id : ℕ) (v : V) → AllByRecursion HasKey rows
      → AllByRecursion (λ i. i ≡ pos id) gone
      → insert (map_of value (without_all rows gone)) id v ≡ insert (map_of value rows) id v
  insert_without rows [] id v all none = refl
  insert_without rows (i ∷ gone) id v all these =
      insert_without (without_rowid i rows) gone id v (all-filter HasKey (λ r. not (has_rowid i r)) rows all) these.1
      ∙ rw (these.0, map_without rows id all) (same _ _ (λ q. simp looks (grind (arith, nat_tests))))

  -- the key is not found, and no line is shown; or the value of its row is found, and only this row's line is shown
  abbrev pub IsFound : Option V → (id : ℕ) (line : Row → Row) (lines : List Row) → Type 0
  IsFound found id line lines = ((found ≡ None) × (lines ≡ []))
      ⊎ ((r : Row) × (found ≡ Some (value r)) × (lines ≡ line r ∷ []) × (rowid r ≡ Int (pos id)))

  pub found : (id : ℕ) (rows : List Row) → AreKeyed rows
      → IsFound (get (map_of value rows) id) id (λ r. r) (filter (has_rowid (pos id)) rows)
  found id [] keyed = inl (get-empty nat_cmp id, refl)
  found id (row ∷ rows) keyed =
      let at = get-insert nat_cmp_total (map_of value rows) (key_in row) (value row) id in
      let own = is_at id row keyed.keys.0 in
      elim (cases_Bool (eq_by_cmp nat_cmp id (key_in row))) [
        | inl here ↦
            let is : rowid row ≡ Int (pos id) =
            rw (same_rowid row keyed.keys.0.id id keyed.keys.0.id_is (own ∙ here)) at keyed.keys.0.id_is in
            let none = filter_none (has_rowid (pos id)) rows
            (rw is at (all_weaker _ (λ r. are_tied r row ≡ false) (λ r. untied row r) rows keyed.apart.0)) in
            inr (row, rw here at at, rw (own ∙ here, none), is)
        | inr other ↦
            elim (found id rows (record { keys = keyed.keys.1; apart = keyed.apart.1 })) [
              | inl none ↦ inl (rw other at at ∙ none.0, rw (own ∙ other) none.1)
              | inr some ↦ inr (some.0, rw other at at ∙ some.1, rw (own ∙ other) some.2, some.3)
            ]
      ]

  put_first : (row : Row) (rows : List Row) → HasKey row → AllByRecursion HasKey rows
      → AllByRecursion (λ b. value_cmp (rowid row) (rowid b) ≡ Less) rows
      → put nat_cmp (key_in row) (value row) (map (entry_of value) rows) ≡ map (entry_of value) (row ∷ rows)
  put_first row [] key all low = refl
  put_first row (r ∷ rows) key all low =
      let below = key_below row r key all.0 low.0 in grind (arith, nat_tests)

  -- the map of rows in ascending order has the entries of the rows, in the same order
  entries_are : (rows : List Row) → AllByRecursion HasKey rows → IsTable rows
      → entries (map_of value rows) ≡ map (entry_of value) rows
  entries_are [] all once = nil_from_length _ (sym (len-entries empty) ∙ len-empty nat_cmp V)
  entries_are (row ∷ rows) all once =
      rw (entries-insert nat_cmp_total (map_of value rows) (key_in row) (value row), entries_are rows all.1 once.1)
      (put_first row rows all.0 all.1 once.0)

  pub entries_ranked : (rows : List Row) → AreKeyed rows
      → entries (map_of value rows) ≡ map (entry_of value) (ranked rows)
  entries_ranked rows keyed =
      let up = (permutation_keeps_map value rows (ranked rows) (ranked_permutes rows keyed)).1 keyed in
      ap entries up.1 ∙ entries_are (ranked rows) up.0.keys (ranked_rises rows)

  -- there are as many entries as rows
  pub len_is : (rows : List Row) → AreKeyed rows → len (map_of value rows) ≡ length rows
  len_is rows keyed = search (len-entries, entries_ranked, length-map, length_permutation, ranked_permutes)

-- the row beside the parameters
abbrev pub env_of : Row → Row → Env
env_of params row = params ∷ row ∷ []

abbrev passes : List Term → Row → Row → Bool
passes tests params row = list_all (holds (env_of params row)) tests

-- the rows that pass the tests
passing : (tests : List Term) (params : Row) (test : Row → Bool) (rows : List Row)
    → AllByRecursion (λ r. passes tests params r ≡ test r) rows
    → flat_map (λ r. cond (passes tests params r) (env_of params r ∷ []) []) rows
    ≡ map (env_of params) (filter test rows)
passing tests params test [] all = refl
passing tests params test (r ∷ rows) all = grind (arith, passing tests params test rows all.1)

-- what a row is sorted by, and what it shows
abbrev out : List Term → List (Term × Key) → Row → Row → Output
out shown order params row = (eval_all (map (λ k. k.0) order) (env_of params row), eval_all shown (env_of params row))

module _ {d : ℕ} {tests shown : List Term} {collations : List Collation} {order : List (Term × Key)} (db : Trees)
    {params : Row} {rows : List Row}
    (a : IsAnswer (rows_query d tests shown collations order) (overlay db []) params rows) where
  kept_are : (test : Row → Bool) → AllByRecursion (λ r. passes tests params r ≡ test r) (db d)
      → a.kept ≡ map (out shown order params) (filter test (db d))
  kept_are test asks = a.distinct ∙ ap (map (output (rows_query d tests shown collations order)))
      (a.grouped ∙ ap (λ (trees : Trees). flat_map (λ r. cond (passes tests params r) (env_of params r ∷ []) [])
      (trees d)) (none_given db) ∙ passing tests params test (db d) asks) ∙ map-map _ _ (filter test (db d))

  -- the query shows the rows that it keeps, in some order
  shows_kept : (kept : List Row) → a.kept ≡ map (out shown order params) kept
      → IsPermutation (map (λ r. eval_all shown (env_of params r)) kept) rows
  shows_kept kept is = rw a.shown (rw (map-map (λ (o : Output). o.1) (out shown order params) kept) at
      (IsPermutation-map (λ (o : Output). o.1) _ a.ordered (rw is at a.same)))

module _ {d : ℕ} {shown : List Term} {collations : List Collation} {order : List (Term × Key)} (db : Trees)
    {params : Row} {rows : List Row} where
  -- a query without a test keeps every row
  kept_all : (a : IsAnswer (rows_query d [] shown collations order) (overlay db []) params rows)
      → a.kept ≡ map (out shown order params) (db d)
  kept_all a =
      let each : AllByRecursion (λ r. true ≡ true) (db d) = all_of _ (λ r. refl) (db d) in
      kept_are db a (λ r. true) each ∙ ap (map (out shown order params)) (filter_all (λ r. true) (db d) each)

  pub shows_all : IsAnswer (rows_query d [] shown collations order) (overlay db []) params rows
      → IsPermutation (map (λ r. eval_all shown (env_of params r)) (db d)) rows
  shows_all a = shows_kept db a (db d) (kept_all a)

  -- a query without a test shows the only row of a table
  pub shows_one : (row : Row) → db d ≡ row ∷ []
      → IsAnswer (rows_query d [] shown collations order) (overlay db []) params rows
      → rows ≡ eval_all shown (env_of params row) ∷ []
  shows_one row one a = one_permutation _ rows (rw one at (shows_all a))

  -- the table has one row, if one is shown
  pub one_shown : (row : Row) → rows ≡ row ∷ []
      → IsAnswer (rows_query d [] shown collations order) (overlay db []) params rows
      → (r : Row) × (db d ≡ r ∷ []) × (row ≡ eval_all shown (env_of params r))
  one_shown row are a = single (db d) (one_permutation row _ (IsPermutation-sym _ _ (rw are at (shows_all a))))
    where
      single : (rs : List Row) → map (λ r. eval_all shown (env_of params r)) rs ≡ row ∷ []
          → (r : Row) × (rs ≡ r ∷ []) × (row ≡ eval_all shown (env_of params r))
      single (r ∷ []) e = (r, refl, cc)
      single rs e = absurd cc

-- a summary that counts
one_row : (order : List Env) (rows : List Row) → AllZip (IsSummary count_rows) (order ∷ []) rows
    → rows ≡ (count (length order) ∷ []) ∷ []
one_row order (r ∷ []) (([], values, is), _) = absurd values
one_row order (r ∷ []) ((v ∷ [], values, is), _) =
    let counted : count (length (map (eval (lit Null)) order)) ≡ v = (let f = values.0 in cc) in
    rw (is, ← counted, length-map order (eval (lit Null)))
one_row order (r ∷ []) ((v ∷ w ∷ more, values, is), _) = absurd values.1
one_row order [] summaries = absurd summaries
one_row order (r ∷ s ∷ more) summaries = absurd summaries.1

pub truth_alone : (b : Bool) → (is_true (from_truth (Some b)) && true) ≡ b
truth_alone b = search arith

compared : (op : CompareOp) (row : Row) (id : ℕ) (it : HasKey row)
    → list_all (holds (env_of (lookup_params id) row)) (op2 (Compare op Binary) (col 1 0) (col 0 0) ∷ [])
    ≡ test op (value_cmp (rowid row) (Int (pos id)))
unfolding binary
compared op row id it = rw it.id_is (truth_alone (test op (value_cmp (Int (pos it.id)) (Int (pos id)))))

differs : (o : Ordering) → is_ne o ≡ not (is_eq o)
differs o = grind arith

module _ {V : Type 0} (value : Row → V) (d : ℕ) (db : Trees) (keyed : AreKeyed (db d)) where
  -- the row of the key, or none
  pub finds : {shown : List Term} (id : ℕ) (rows : List Row)
      → IsAnswer (find_query d shown) (overlay db []) (lookup_params id) rows
      → IsFound value (get (map_of value (db d)) id) id (λ r. eval_all shown (env_of (lookup_params id) r)) rows
  finds {shown} id rows a =
      let turned = shows_kept db a (filter (has_rowid (pos id)) (db d)) (kept_are db a (has_rowid (pos id))
      (all_weaker HasKey _ (λ r it. compared Eq r id it) (db d) keyed.keys)) in
      elim (found value id (db d) keyed) [
        | inl none ↦ inl (none.0, nil_from_length rows (length_permutation [] rows (rw none.1 at turned)))
        | inr some ↦ inr (some.0, some.1, one_permutation _ rows (rw some.2 at turned), some.3)
      ]

  -- the rows in ascending order of key
  pub lists : {shown : List Term} (rows : List Row) → IsAnswer (all_query d shown) (overlay db []) [] rows
      → rows ≡ map (λ r. eval_all shown (env_of [] r)) (ranked (db d))
  lists {shown} rows a =
      let q = all_query d shown in
      let o = out shown q.order [] in
      let up = ranked (db d) in
      let same : IsPermutation (map o up) a.ordered =
      search (IsPermutation-trans, IsPermutation-map, IsPermutation-sym, ranked_permutes, kept_all) in
      let ordered : a.ordered ≡ map o up = sorted_unique (output_cmp q) (output_cmp_total q) (map o up) a.ordered
      (search (arith, ascending-map, ascending_weaker, ranked_rises)) same a.sorted in
      search (arith, map-map)

  -- the number of rows with other keys
  pub counts : (id : ℕ) (rows : List Row) → IsAnswer (count_others_query d) (overlay db []) (lookup_params id) rows
      → rows ≡ (count (len (remove (map_of value (db d)) id)) ∷ []) ∷ []
  counts id rows a =
      let others = without_rowid (pos id) (db d) in
      let g = a.grouped in
      let order = g.grouping.0 in
      let passed = passing (key_differs_from_param ∷ []) (lookup_params id) (λ r. not (has_rowid (pos id) r)) (db d)
      (search (all_weaker, compared, differs)) in
      let all_read = ap (λ (trees : Trees). trees d) (none_given db) in
      let n : length order ≡ length others = length_permutation _ order (rw (all_read, passed) at g.grouping.1)
      ∙ length-map others (env_of (lookup_params id)) in
      let kept : a.kept ≡ ([], count (length order) ∷ []) ∷ [] =
      rw (g.having, one_row order g.rows (rw g.grouping.2 at g.summaries)) at a.distinct in
      let len_others = len_is value others (keyed_without (db d) (pos id) keyed) in
      let shown = one_permutation _ a.ordered (rw kept at a.same) in
      rw (a.shown, shown, n, ← len_others, map_without value (db d) id keyed.keys)

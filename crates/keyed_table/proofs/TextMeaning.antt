-- A text means the command of its statement, and a plain SELECT from one table its query.
use Rattle.keyed_table.proofs.Common.{Err, ◌≡◌, ℕ, ◌&&◌, List, [], ◌∷◌, true, None, Some, Ok, refl, Option, pos, negsuc}
use Rattle.keyed_table.proofs.Common.{not, ◌==◌, length, map, false, Schema, Table, Query, Delete, Update, Null, Int}
use Rattle.keyed_table.proofs.Common.{Command, table_named, view_named, Draft, row_classes, ParsesAs, CompilesTo}
use Rattle.keyed_table.proofs.Common.{program_of, count_others_query, Expr, Term, lit, Collation, One, Binary}
use Rattle.sqlite.specs.Query.{inner, end}
use Rattle.sqlite.specs.Listing.{understood}
use Rattle.sqlite_resolve.specs.declared.error.CompileError.TheVariants.{NoSuchTable}
use Rattle.sqlite_ast.specs.declared.Statement.{Statement}
use Rattle.sqlite_draft.specs.declared.join.Step.TheVariants.{Inner}
use Rattle.sqlite_draft.specs.Query.{query_of}
use Rattle.sqlite_typing.specs.Types.{accepts_over, accepts_after, is_count}
use Rattle.sqlite_resolve.specs.Program.{program, Building, Shown, query, query_to, level, with, whole, alone, single}
use Rattle.sqlite_resolve.specs.Program.{viewing, sources, source}
use Rattle.sqlite_resolve.specs.Write.{simple, deleted, updated}
use Rattle.sqlite_resolve.specs.Compile.{compiled, planned, meaning, timed, returning, command, with_command, shows}
use Rattle.sqlite_resolve.specs.Compile.{delete, update, read}
use Rattle.keyed_table.specs.Tables.{IsTableAt}
use Rattle.sqlite_ast.specs.declared.Conflict.{Conflict}
use Rattle.sqlite_ast.specs.declared.Rows.{Rows}
use Rattle.sqlite_ast.specs.declared.Expr.TheViews.{out-roll-Core, out-roll-Select, out-roll-Source}
use Rattle.sqlite_ast.specs.declared.Sort.{Sort, roll-Sort}
use Rattle.sqlite_ast.specs.declared.Core.{Core, roll-Core}
use Rattle.sqlite_ast.specs.declared.Source.{Source, roll-Source}
use Rattle.sqlite_ast.specs.declared.Select.{Select, roll-Select}
use Rattle.sqlite_resolve.specs.declared.scope.Level.{Level}
use Rattle.sqlite_resolve.specs.declared.scope.Output.{Output}
use Rattle.sqlite_resolve.specs.declared.select.Clauses.{Clauses}
use Rattle.sqlite_resolve.specs.declared.body.Body.{Body}
use Rattle.sqlite_resolve.specs.declared.body.Joined.{Joined}
use Rattle.sqlite_resolve.specs.Body.{bounds, bound, table_in, body, result, outputs, matching, joins, join, shared}
use Rattle.sqlite_resolve.specs.Body.{inner_join, tests, within}
use Rattle.sqlite_resolve.specs.Expr.{lower}
use Rattle.sqlite_resolve.specs.Lowering.{Checked, Lowering, and_then, ◌>>=◌, ◌<$>◌, pure, get, fresh, max_budget}
use Rattle.sqlite_resolve.specs.Lowering.{take_slot}
use Rattle.sqlite_resolve.specs.Order.{keys, sorts}
use Rattle.sqlite_resolve.specs.Select.{named, paging, constant_or, outermost, inside, parts, having, assembled}
use Rattle.sqlite_sql.specs.declared.aggregate.AggregateOp.TheVariants.{CountRows}
use Rattle.sqlite.specs.Command.TheVariants.{Select as Reads}
use Rattle.sqlite_ast.specs.declared.Shown.{Shown as Column}
use Rattle.sqlite_ast.specs.declared.Binary.{Binary as Compared}
use Rattle.sqlite_ast.specs.declared.Origin.TheVariants.{Table as Named}
use Rattle.sqlite_ast.specs.declared.Statement.TheVariants as written
use Rattle.sqlite_ast.specs.declared.Expr.TheVariants as expr

-- a text means the command of its statement
module _ (schema : Schema) {text : List ℕ} {s : Statement} (c : Command) (it : ParsesAs text s)
    (untimed : timed schema [] s ≡ []) (unshown : (base : ℕ) → returning schema base s ≡ Ok None)
    (is : (base : ℕ) → command schema [] base s ≡ Ok c) where
  compiled_as : compiled schema text ≡ Ok (with_command it.parsed ([], (c, None)))
  unfolding compiled planned meaning
  compiled_as = rw (it.read, it.is, it.needs_no_time, untimed, unshown, is)

  pub understood_as : understood schema text ≡ Ok (with_command it.parsed ([], (c, None)))
  unfolding understood
  understood_as = rw compiled_as

  pub means : CompilesTo schema text c
  means = record { is = rw understood_as; is_plain = rw understood_as (refl, refl); reads_no_listing = rw compiled_as }

-- the draft of a query over this table that has no groups
abbrev pub draft_of : Table → Query → Draft
draft_of table q = record (simple (Inner table.tree ∷ []) q.filter q.project) { order = q.order }

-- the query reads only this table, and its terms have types there
pub record IsTyped (table : Table) (q : Query) : Type 0 where
  pub from : q.from ≡ inner table.tree end
  pub accepted : (accepts_after [] q (Some (row_classes table ∷ [])) && (is_count [] q.limit && is_count [] q.offset))
      ≡ true

module _ {schema : Schema} {name : List ℕ} {table : Table} {at : ℕ} (stands : IsTableAt schema name table at) where
  -- the draft of a typed query compiles to the program of the query, if the table exists
  pub program_is : (d : Draft) → IsTyped table (query_of d) → program schema [] d ≡ Ok (program_of (query_of d))
  unfolding program
  program_is d typed =
      let accepted : accepts_over schema [] (query_of d) [] ≡ true = rw (typed.from, stands.classes) typed.accepted in
      rw accepted

  -- a DELETE without RETURNING deletes the rows for which the test holds
  pub delete_means : {text : List ℕ} {test : Option Expr} (d : Draft) → ParsesAs text (written.Delete name test [])
      → deleted schema at table test ≡ Ok d → IsTyped table (query_of d)
      → CompilesTo schema text (Delete at (program_of (query_of d)))
  unfolding timed returning shows command delete
  delete_means d it is typed =
      means schema _ it refl (λ base. refl) (λ base. rw (stands.named, stands.there, is, program_is d typed))

  -- the query of an UPDATE shows the old rowid and the new row of each row for which the test holds
  pub update_means : {text : List ℕ} {sets : List (List ℕ × Expr)} {test : Option Expr} (d : Draft)
      → ParsesAs text (written.Update name sets test []) → updated schema at table sets test ≡ Ok d
      → IsTyped table (query_of d) → CompilesTo schema text (Update at (program_of (query_of d)))
  unfolding timed returning shows command update
  update_means d it is typed =
      means schema _ it refl (λ base. refl) (λ base. rw (stands.named, stands.there, is, program_is d typed))

  -- an INSERT without RETURNING means this command, if no column of the table has the time as its default
  pub insert_means : {text : List ℕ} {how : Conflict} {columns : List (List ℕ)} {rows : Rows} (c : Command)
      → ParsesAs text (written.Insert how name columns rows [] []) → table.stamps.formats ≡ []
      → ((base : ℕ) → command schema [] base (written.Insert how name columns rows [] []) ≡ Ok c)
      → CompilesTo schema text c
  unfolding timed returning shows
  insert_means c it timeless is = means schema c it (rw (stands.named, stands.there, timeless)) (λ base. refl) is

-- a column that is shown under its own name, as it is written
abbrev pub column_read : List ℕ → Column
column_read name = One (expr.Column None name) None name

abbrev pub by_column : List ℕ → Sort
by_column name = roll-Sort (record { key = expr.Column None name; descending = false; nulls_first = None })

-- the column compared with the first parameter, as it is written
abbrev pub parameter_test : Compared → List ℕ → Option Expr
parameter_test op name = Some (expr.Binary op (expr.Column None name) (expr.Parameter 1))

-- a SELECT from one table: these columns of each row for which the test holds, with the rows in this order
pub record PlainSelect : Type 0 where
  pub name : List ℕ
  pub columns : List Column
  pub test : Option Expr
  pub order : List Sort

abbrev pub plain_select : List ℕ → List Column → Option Expr → List Sort → PlainSelect
plain_select name columns test order = record { name = name; columns = columns; test = test; order = order }

-- the syntax of this SELECT: no WITH, compound SELECT, LIMIT, OFFSET, GROUP BY, HAVING or DISTINCT
abbrev pub core_of : PlainSelect → Core
core_of it =
    let from : List Source =
    roll-Source (record { is_left = false; origin = Named it.name; alias = None; on = None; using = [] }) ∷ [] in
    roll-Core
    (record { distinct = false; shown = it.columns; from = from; filter = it.test; group = []; having = None })

abbrev pub select_of : PlainSelect → Select
select_of it =
    roll-Select (record { with = []; first = core_of it; others = []; order = it.order; limit = None; offset = None })

-- the text is this SELECT
pub record IsPlainSelect (text : List ℕ) (it : PlainSelect) : Type 0 where
  pub read : ParsesAs text (written.Select (select_of it))

abbrev pub no_page : Term × Term
no_page = (lit (Int (negsuc 0)), lit (Int (pos 0)))

-- the meaning of a plain SELECT whose table is at this index of the schema, in slot 1
module _ (schema : Schema) (at : ℕ) (table : Table) (it : PlainSelect) where
  abbrev level_of : List Output → Level
  level_of shown = record { tables = record { name = it.name; table = at; slot = 1; shared = [] } ∷ []; shown = shown }

  abbrev joined_by : List Term → Joined
  joined_by tests = record { steps = Inner table.tree ∷ []; filter = tests }

  abbrev lowered_body : Lowering Body
  lowered_body = do
    shown ← outputs lower (within (outermost schema) (level_of []) true) (level_of []).tables it.columns
    joined ← joined_by <$> tests lower (inside schema (level_of shown) false) [] it.test
    pure (record { level = level_of shown; steps = joined.steps; filter = joined.filter })

  abbrev lowered : Lowering Clauses
  lowered = do
    body ← lowered_body
    so_far ← get
    let is_grouped = not (length so_far.aggregates == 0)
    order ← sorts lower (inside schema body.level is_grouped) body.level.shown it.order
    pure (record { body = body; is_grouped = is_grouped; keys = []; collations = []; having = []; order = order })

  abbrev pub asked : Checked Shown
  asked =
      and_then (lowered (fresh 2 max_budget)) (λ r. and_then (assembled false no_page.0 no_page.1 r.0 r.1)
      (λ d. Ok (d, map (λ o. o.name) r.0.body.level.shown, map (λ o. o.carried.collation) r.0.body.level.shown)))

module _ (it : PlainSelect) {schema : Schema} {at : ℕ} {table : Table} (stands : IsTableAt schema it.name table at)
    (part : Shown) (asks : asked schema at table it ≡ Ok part) where
  named_is : named schema (core_of it) it.order no_page ≡ Ok part
  unfolding named parts body bounds bound table_in take_slot result matching joins join shared inner_join tests keys
      having
  named_is = rw (out-roll-Core, out-roll-Source, stands.named, out-roll-Source, stands.there) asks

  level_is : (sub : Schema → Select → Building Shown) → level sub schema (select_of it) [] ≡ Ok (part, [])
  unfolding level with whole alone single viewing paging constant_or sources source
  level_is sub = rw (out-roll-Select, out-roll-Core, out-roll-Source, named_is)

  -- the SELECT compiles to the meaning of its clauses
  pub query_is : query schema (select_of it) ≡ Ok (part, [])
  unfolding query query_to
  query_is = level_is (query_to 15)

module _ {text : List ℕ} {it : PlainSelect} (is : IsPlainSelect text it) {schema : Schema} {at : ℕ} {table : Table}
    (stands : IsTableAt schema it.name table at) where
  -- the text means this query
  pub select_means : (d : Draft) {names : List (List ℕ)} (collations : List (Option Collation))
      → asked schema at table it ≡ Ok (d, names, collations) → IsTyped table (query_of d)
      → CompilesTo schema text (Reads (program_of (query_of d)) names)
  unfolding timed returning command read
  select_means d collations asks typed = means schema _ is.read refl (λ base. refl)
      (λ base. rw (query_is it stands _ asks, program_is stands d typed))

-- a SELECT from a name that no table or view has does not compile
module _ (it : PlainSelect) (schema : Schema) (no_table : table_named schema it.name ≡ None)
    (no_view : view_named schema it.name ≡ None) where
  level_misses : (sub : Schema → Select → Building Shown) → level sub schema (select_of it) [] ≡ Err NoSuchTable
  unfolding level with whole alone single viewing paging constant_or sources source named parts body bounds bound
      table_in take_slot
  level_misses sub = rw (out-roll-Select, out-roll-Core, out-roll-Source, no_table, no_view)

  query_misses : query schema (select_of it) ≡ Err NoSuchTable
  unfolding query query_to
  query_misses = level_misses (query_to 15)

pub select_misses : {text : List ℕ} {it : PlainSelect} → IsPlainSelect text it → (schema : Schema)
    → table_named schema it.name ≡ None → view_named schema it.name ≡ None → compiled schema text ≡ Err NoSuchTable
unfolding compiled planned meaning timed returning command read
select_misses {it = it} is schema no_table no_view =
    rw (is.read.read, is.read.is, query_misses it schema no_table no_view)

-- the count of the rows of this table with other keys
abbrev pub count_draft : Table → Draft
count_draft table =
    let rows = record { op = CountRows; distinct = false; collation = Binary; argument = lit Null } ∷ [] in
    record (draft_of table (count_others_query table.tree)) {
      group = Some (record { keys = []; collations = []; aggregates = rows; having = [] });
    }

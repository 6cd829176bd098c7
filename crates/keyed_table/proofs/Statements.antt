-- The effect of a statement or a transaction on the value that a database holds, from what the database reports.
use Rattle.keyed_table.proofs.Common.{◌≡◌, ◌⊎◌, inl, ℕ, List, [], append-nil, OnOk, OnErr, false, Ok, Err, Result, None}
use Rattle.keyed_table.proofs.Common.{IsTrue, IfOk, IfErr, sym, ap, subst, ◌∙◌, arith, refl, ◌∷◌, ◌++◌, true}
use Rattle.keyed_table.proofs.Common.{cases_Bool, IfOk-weaker, Row, Trees, Command, Error, understood, Database}
use Rattle.keyed_table.proofs.Common.{IsDatabase, State, HasCleanDisk, Survives, Executes, IsUnchanged, mode_of}
use Rattle.keyed_table.proofs.Common.{IsPlain, command_of, statement_of, never_commits, unchanged_then, runs_as}
use Rattle.keyed_table.proofs.Common.{unchanged_keeps, survives_then, survives_weaker, HoldsIn, Update, Does, Tally}
use Rattle.keyed_table.proofs.Common.{CompilesTo, FailsToCommit, Held, state, Ghosts, HasRunStatements}
use Rattle.std.proofs.Common.{subst₂}
use Rattle.std.proofs.lemmas.Result.{IfErr-weaker, on_err_weaker}
use Rattle.sqlite.specs.State.{ExecutesIn, CommitsBy, IsNotRun, IsRolledBack, Shown, FailsToQuery, CommitsShowing}
use Rattle.sqlite.specs.State.{Writes, IsStatement, text_of, Runs, Shows, KeepsCounts, ExecutesInside}
use Rattle.sqlite.proofs.InsideLemmas.{fails_whole}
use Rattle.keyed_table.specs.Stores.{IsReady, IsReadyWith, KeepsValueIfStillOpen, WritesNothing, IsSettledOpen}
use Rattle.keyed_table.specs.Stores.{KeepsDatabaseIfStillOpen, CommitsOrMayBeLeft}
use Rattle.sqlite.specs.Calls.{IsWrite}
use Rattle.sqlite_schema.specs.declared.program.Program.{Program}
use Rattle.sqlite.specs.Clock.{timed}
use Rattle.keyed_table.specs.Transactions.{IsUncommitted, IsMidTransaction}

-- the state is unchanged, or was rolled back to what is committed
abbrev pub IsSpared : State → State → Type 0
IsSpared old new = IsUnchanged old new ⊎ IsRolledBack old new

module _ (sql : List ℕ) (params : Row) (old new : State) where
  pub not_run : (e : Error) → IsNotRun old new sql params e → IsSpared old new
  unfolding IsNotRun
  not_run e refused = search arith

  pub spared_if : (r : Result ℕ Error) → Executes sql params old new r → OnErr r (IsSpared old new)
  spared_if r ran = search (arith, fails_whole)

  -- if the result is a count, the statement was executed with this count
  pub executed_ok : (r : Result ℕ Error) → Executes sql params old new r
      → IfOk r (λ count. Executes sql params old new (Ok count))
  executed_ok r ran = search arith

  -- a plain query commits nothing
  plain_commits_none : (HasCleanDisk old → IsPlain (understood old.now.schema sql))
      → Survives old new (CommitsShowing sql params old) → Survives old new (λ _. ⊥)
  plain_commits_none plain survives = search (arith, survives_weaker, never_commits)

  module _ (plain : IsPlain (understood old.now.schema sql)) where
    pub shown_same : (rows : List Row) → Shown sql params old new rows → IsUnchanged old new
    unfolding Shown
    shown_same rows h = let none = (rw h.1.is at plain).0 in (rw none at h.2).3

    pub not_shown : (e : Error) → FailsToQuery sql params old new e → IsSpared old new
    unfolding FailsToQuery
    not_shown e refused = search (arith, not_run)

    query_spared : {V : Type 0} (items : V → List Row) (r : Result V Error)
        → IfOk r (λ v. Shown sql params old new (items v)) → IfErr r (FailsToQuery sql params old new)
        → IsSpared old new
    query_spared items r shown failed = search (arith, shown_same, not_shown)

-- compiling a text, which writes nothing
compiled_spared : {V : Type 0} (P : V → Type 0) (sql : List ℕ) (old new : State) (r : Result V Error)
    → IfOk r (λ v. P v × IsUnchanged old new) → IfErr r (λ e. (params : Row) → IsNotRun old new sql params e)
    → IsSpared old new
compiled_spared P sql old new (Ok v) ok err = inl ok.1
compiled_spared P sql old new (Err e) ok err = not_run sql [] old new e (err [])

-- two calls that each commit nothing commit nothing together
commits_none : (a b c : State) → Survives a b (λ _. ⊥) → Survives b c (λ _. ⊥) → Survives a c (λ _. ⊥)
commits_none a b c = survives_then a b c _ _ _ (λ clean trees no. no) (λ clean trees no. no)

-- a plain query with a compiled statement commits nothing, and if it is answered, the state is unchanged
module _ (sql text : List ℕ) (params : Row) (old mid new : State) where
  pub query_survives : Survives old mid (λ _. ⊥) → (HasCleanDisk mid → text ≡ sql)
      → (HasCleanDisk mid → IsPlain (understood mid.now.schema sql)) → Survives mid new (CommitsShowing text params mid)
      → Survives old new (λ _. ⊥)
  query_survives first is plain second = commits_none old mid new first
      (plain_commits_none text params mid new (λ clean. rw (is clean) (plain clean)) second)

  pub answered_same : {V : Type 0} (items : V → List Row) (r : Result V Error) → IsUnchanged old mid → text ≡ sql
      → IsPlain (understood mid.now.schema sql) → IfOk r (λ v. Shown text params mid new (items v))
      → OnOk r (IsUnchanged old new)
  answered_same items r first is plain = search (arith, IfOk-weaker, unchanged_then, shown_same)

pub spared_remains : (old new : State) → IsSpared old new → KeepsDatabaseIfStillOpen old new
spared_remains old new spared is_open rest = search arith

module _ {M : Type 0} {Holds : Database → M → Type 0} where
  pub ready_with : (s : State) (db : Database) (m : M) → IsTrue s.is_open → s.in_transaction ≡ false
      → s.now ≡ s.committed → s.now ≡ db → IsDatabase db → Holds db m → IsReadyWith Holds s m
  ready_with s db m is_open idle settled is sound holds = search arith

  module _ (old new : State) where
    pub spared : IsSpared old new → KeepsValueIfStillOpen Holds old new
    spared it is_open = search arith

    pub ready_on : KeepsValueIfStillOpen Holds old new → IsTrue new.is_open → IsReady Holds old → IsReady Holds new
    ready_on goes_on is_open ready = record { held = ready.held; shows = (goes_on is_open).1 ready.held ready.shows }

    stays_from : Survives old new (λ _. ⊥) → (HasCleanDisk new → IsSpared old new) → WritesNothing Holds old new
    stays_from survives it = search arith

  -- a plain query writes nothing
  pub query_stays : {V : Type 0} (sql : List ℕ) (params : Row) (old new : State) (items : V → List Row)
      (r : Result V Error) → (HasCleanDisk old → IsPlain (understood old.now.schema sql))
      → Survives old new (CommitsShowing sql params old)
      → (HasCleanDisk new → IfOk r (λ v. Shown sql params old new (items v)))
      → (HasCleanDisk new → IfErr r (FailsToQuery sql params old new)) → WritesNothing Holds old new
  query_stays sql params old new items r plain survives shown failed =
      stays_from old new (search plain_commits_none) (search (arith, query_spared))

  -- a query writes nothing if its statement was compiled from a plain text
  pub compiled_query_stays : {V : Type 0} (sql text : List ℕ) (params : Row) (old mid new : State)
      (items : V → List Row) (r : Result V Error) → WritesNothing Holds old mid → (HasCleanDisk mid → text ≡ sql)
      → (HasCleanDisk mid → IsPlain (understood mid.now.schema sql)) → Survives mid new (CommitsShowing text params mid)
      → (HasCleanDisk new → IfOk r (λ v. Shown text params mid new (items v)))
      → (HasCleanDisk new → IfErr r (FailsToQuery text params mid new)) → WritesNothing Holds old new
  compiled_query_stays sql text params old mid new items r first is plain survives shown failed =
      let second =
      query_stays text params mid new items r (λ clean. rw (is clean) (plain clean)) survives shown failed in
      search arith

  -- if a plain query is answered, a ready connection is still ready
  pub query_ready : (sql : List ℕ) (params : Row) (old new : State) (rows : List Row)
      → IsPlain (understood old.now.schema sql) → IsReady Holds old → Shown sql params old new rows → IsReady Holds new
  query_ready sql params old new rows plain ready h = search (arith, shown_same, ready_on, spared)

  module _ {V : Type 0} (P : V → Type 0) (sql : List ℕ) (old new : State) where
    pub compiled_stays : (r : Result V Error) → Survives old new (λ _. ⊥)
        → (HasCleanDisk new → IfOk r (λ v. P v × IsUnchanged old new))
        → (HasCleanDisk new → IfErr r (λ e. (params : Row) → IsNotRun old new sql params e))
        → WritesNothing Holds old new
    compiled_stays r survives ok err = search (arith, stays_from, compiled_spared)

    -- if a text is compiled, the connection is open, and a ready connection is still ready
    pub compiled_ready : (r : Result V Error) → IfOk r (λ v. P v × IsUnchanged old new)
        → (IsTrue old.is_open → IsReady Holds old) → OnOk r (IsReady Holds new)
    compiled_ready r done ready = search arith

module _ (sql : List ℕ) (params : Row) (old new : State) where
  -- if a statement was not run and the connection is still open, the database is unchanged and no transaction is open
  pub not_run_kept : {T E : Type 0} (r : Result T E) (e : Error) → (IsTrue old.is_open → IsSettledOpen old)
      → IsNotRun old new sql params e → OnErr r (IsTrue new.is_open → IsSettledOpen new × (new.now ≡ old.now))
  not_run_kept r e rest refused = search (arith, not_run, spared_remains, unchanged_keeps)

  pub failed_keeps_database : (r : Result ℕ Error) → Executes sql params old new r
      → OnErr r (KeepsDatabaseIfStillOpen old new)
  failed_keeps_database r h = on_err_weaker r (spared_remains old new) (spared_if sql params old new r h)

  pub failed_query_keeps_database : {V : Type 0} (r : Result V Error) → IsPlain (understood old.now.schema sql)
      → IfErr r (FailsToQuery sql params old new) → OnErr r (KeepsDatabaseIfStillOpen old new)
  failed_query_keeps_database r plain = search (IfErr-weaker, spared_remains, not_shown)

-- an UPDATE depends only on the unchanged parts of a state, so one that ran on the second state also ran on the first
pub updates_from : (old mid new : State) → IsUnchanged old mid → mid.step_limit ≡ old.step_limit → (sql : List ℕ)
    (params : Row) (at : ℕ) (program : Program) (count : ℕ)
    → command_of (understood old.now.schema sql) ≡ Update at program
    → Executes sql params mid new (Ok count) → Executes sql params old new (Ok count)
unfolding ExecutesIn
updates_from old mid new same limit sql params at program count means h =
    let c = h.0 in
    let statement : IsStatement old sql params c =
    record { is = rw same.0.now_is at h.1.is; whole = h.1.whole; given = h.1.given; now = h.1.now } in
    let command : c.command ≡ Update at program = sym (ap command_of statement.is) ∙ means in
    let moved : Writes mid new c.returning (Update at program) (text_of sql c) (timed params c.formats h.1.now) count
    → Writes old new c.returning (Update at program) (text_of sql c) (timed params c.formats h.1.now) count = λ written.
    let changed = rw (limit, same.0.now_is) at written.changed in
    let frozen = rw same.0.now_is at written.frozen in
    let committed = rw (same.0.mode, same.0.committed_is) at written.shown.committed_is in
    search arith in
    (c, statement, search (arith, cases_Bool))

-- ---- a statement that writes rows

-- the contract of a call that runs this text on a database that holds a value
module _ {M : Type 0} (Holds : Database → M → Type 0) (sql : List ℕ) (params : Row) (then : M → M) where
  abbrev pub CommitsFrom : (old new : State) → Result ℕ Error → Type 0
  CommitsFrom old new r = Survives old new (CommitsBy sql params old)
      → (HasCleanDisk new → Executes sql params old new r) → CommitsOrMayBeLeft Holds old new then r

  -- the contract if the value satisfies `HasRoom`
  abbrev pub CommitsWithRoom : (HasRoom : M → Type 0) → Type 1
  CommitsWithRoom HasRoom = (old new : State) (r : Result ℕ Error) → (HasCleanDisk old → IsReady Holds old)
      → (HasCleanDisk old → (m : M) → IsReadyWith Holds old m → HasRoom m) → CommitsFrom old new r

  abbrev pub AlwaysCommits : Type 1
  AlwaysCommits = (old new : State) (r : Result ℕ Error) → (HasCleanDisk old → IsReady Holds old)
      → CommitsFrom old new r

wrote : (old new : State) (command : Command) (text : List ℕ) (params : Row) (count : ℕ) → IsWrite command
    → Runs old new None command text params count → Writes old new None command text params count
wrote old new command text params count is_write ran = search arith

-- a statement that writes rows, and its effect on a value that satisfies `HasRoom`
module _ {M : Type 0} {Holds : Database → M → Type 0} (sql : List ℕ) (params : Row) (then : M → M)
    (HasRoom : M → Type 0) (command : (db : Database) (m : M) → Holds db m → Command)
    (is_write : (db : Database) (m : M) (had : Holds db m) → IsWrite (command db m had))
    (means : (db : Database) (m : M) (had : Holds db m) → CompilesTo db.schema sql (command db m had))
    (does : (s : State) (after : Database) (text : List ℕ) (tally : Tally) (m : M) (had : Holds s.now m)
    → IsDatabase s.now → HasRoom m
    → Does s.step_limit (mode_of s) params s.now text None (command s.now m had) (Ok (tally, after))
    → Holds after (then m)) where
  pub wrote_as : (old new : State) (count : ℕ) (m : M) (had : Holds old.now m) → Executes sql params old new (Ok count)
      → Writes old new None (command old.now m had) (statement_of sql (understood old.now.schema sql)) params count
  wrote_as old new count m had h = search (arith, wrote, runs_as)

  pub left : (s : State) (m : M) (trees : Trees) → HasRoom m → IsReadyWith Holds s m → CommitsBy sql params s trees
      → HoldsIn Holds trees (then m)
  unfolding CommitsBy
  left s m trees room shows h =
      let is = is_write s.now m shows.holds in
      let meaning = means s.now m shows.holds in
      let known = sym h.1.is in
      let bare = subst IsPlain h.1.is meaning.is_plain in
      search (arith, subst₂, command_of, statement_of, append-nil)

  pub turned : CommitsWithRoom Holds sql params then HasRoom
  turned old new r ready room survives runs =
      let early : HasCleanDisk new → HasCleanDisk old = λ clean. omega (arith, clean, survives.clean) in record {
        clean = early;
        crash = λ clean trees may. search (arith, left);
        made = λ clean. IfOk-weaker r _ _ (λ count h m shows.
            let w = wrote_as old new count m shows.holds h in
            let committed = rw shows.idle at w.shown.committed_is in
            let holds = does old new.now _ w.tally m shows.holds shows.sound (room (early clean) m shows) w.changed in
            search) (search executed_ok);
        failed = λ clean. search (arith, on_err_weaker, spared, spared_if);
      }

-- ---- a transaction

pub uncommitted_then : (a b c : State) → IsUncommitted a b → IsUncommitted b c → IsUncommitted a c
uncommitted_then a b c first second = search arith

module _ {S : Type 0} (g : Ghosts S) where
  one_more_run : (texts : List (List ℕ)) (text : List ℕ) (a b c : Held S) (n : ℕ) → HasRunStatements g texts a b
      → ExecutesInside 0 text [] (state g b) (state g c) (Ok n) → HasRunStatements g (texts ++ text ∷ []) a c
  one_more_run [] text a b c n same step = (c, n, rw same step, refl)
  one_more_run (first ∷ texts) text a b c n (mid, count, ran, on) step =
      (mid, count, ran, one_more_run texts text mid b c n on step)

  -- one more text
  module _ (texts : List (List ℕ)) (text : List ℕ) (a b c : Held S) (r : Result ℕ Error)
      (it : IsMidTransaction g texts a b) (crash : Survives (state g b) (state g c) (λ _. ⊥))
      (runs : HasCleanDisk (state g c) → IsTrue (state g b).in_transaction
      → ExecutesInside 0 text [] (state g b) (state g c) r) where
    ran : HasCleanDisk (state g c) → ExecutesInside 0 text [] (state g b) (state g c) r
    ran clean = runs clean (it.inside (omega (arith, clean, crash.clean)))

    pub uncommitted : IsUncommitted (state g a) (state g c)
    uncommitted = search arith

    pub one_more_text : (n : ℕ) → r ≡ Ok n → IsMidTransaction g (texts ++ text ∷ []) a c
    one_more_text n is = search (arith, uncommitted, ran, one_more_run)

-- a transaction that committed nothing since BEGIN committed nothing since the state before BEGIN
pub since : {S : Type 0} (g : Ghosts S) (old start : Held S) (new : State)
    → start ≡ record old { in_transaction = true } → IsUncommitted (state g start) new → IsUncommitted (state g old) new
since g old start new is it = search arith

-- after a commit, a crash leaves what it could leave before the transaction, or what the transaction shows
module _ (old last new : State) (it : IsUncommitted old last)
    (commits : Survives last new (λ trees. trees ≡ last.now.trees)) where
  pub leaves : (P : Trees → Type 0) → (HasCleanDisk last → P last.now.trees) → Survives old new P
  leaves P shows = search arith

  -- a failed commit rolls back: if the connection is still open, the database is the one before the transaction
  pub uncommitted_remains : {V : Type 0} (r : Result V Error) → (HasCleanDisk last → IsTrue last.in_transaction)
      → (HasCleanDisk new → IfErr r (FailsToCommit last new)) → HasCleanDisk new
      → OnErr r (KeepsDatabaseIfStillOpen old new)
  uncommitted_remains r inside failed clean = search arith

-- the second state has committed what the first one showed in its transaction
abbrev pub Commits : State → State → Type 0
Commits d e = IsTrue d.in_transaction × Shows d e d.now d.now false × KeepsCounts d e × (e.marks ≡ [])

pub shows_committed : {M : Type 0} {Holds : Database → M → Type 0} (d e : State) (m : M) → Holds d.now m
    → IsDatabase d.now → Commits d e → IsReadyWith Holds e m
shows_committed d e m held sound ends = search arith

-- nothing was done
pub survives_itself : (s : State) (P : Trees → Type 0) → Survives s s P
survives_itself s P = search arith

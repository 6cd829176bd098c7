use Rattle.keyed_table.proofs.Common.{◌≡◌, rules, Ok, Err, Result, HasCleanDisk}
use Rattle.device_registry.proofs.Common.{Absent, Present, Unusable}
use Rattle.device_registry.proofs.OpenCalls.{accepted-step, run-rewrites, crash_keeps_found, accepted-creation}
use Rattle.device_registry.proofs.OpenCalls.{creation_crash-keeps_found, recognized_ready, foreign-status}
use Rattle.device_registry.proofs.OpenCalls.{first-is_not_second, found_ready, recognized_by_queries}
use Rattle.device_registry.proofs.OpenCalls.{rewrites_from_earlier, keeps_rows_from_earlier}
use Rattle.device_registry.proofs.TablesRecognized.{clean_before, status_implies}
use Rattle.device_registry.proofs.opening.create_or_recognize.Goals as goal

no_error : {A T E : Type 0} {v : T} {e : E} → ◌≡◌ {A = Result T E} (Ok v) (Err e) → A
no_error is = absurd (let e = is in cc)

ok_no_error : {T E : Type 0} {v : T} {e : E} → ◌≡◌ {A = Result T E} (Ok v) (Err e) → ⊥
ok_no_error = no_error

-- ---- the tables are created

pub create_tables-requires-clause-clear : goal.create_tables-requires-clause-clear
create_tables-requires-clause-clear g c clean =
    (status_implies _ {status = Absent} (search rules), (c.requires.rest clean).sound)

pub returns-in_err-create_tables-in-Absent-clause-crash : goal.returns-in_err-create_tables-in-Absent-clause-crash
returns-in_err-create_tables-in-Absent-clause-crash g c =
    creation_crash-keeps_found c.requires.rest (search rules) c.create_tables.ensures.crash

pub returns-in_ok-create_tables-in-Absent : goal.returns-in_ok-create_tables-in-Absent
returns-in_ok-create_tables-in-Absent g c =
    search (
      rules,
      accepted-creation c.requires.rest (search rules) c.create_tables.ensures.crash
          c.in_ok-create_tables-in-Absent.ensures.made c.in_ok-create_tables-in-Absent.ensures.others,
      no_error,
      ok_no_error,
    )

-- ---- the database is foreign

pub returns-then-not-branch-clause-rejected : goal.returns-then-not-branch-clause-rejected
returns-then-not-branch-clause-rejected g c clean why =
    foreign-status _ {status = Present c.in-Present.version}
    (c.requires.rest (clean_before c.is_registry.ensures.crash clean)) (search rules) (λ is. let e = is in cc)
    (λ version is. let same : c.in-Present.version ≡ version = cc in
    rw same at (c.is_registry.ensures.other clean (search rules)))

pub returns-in-Unusable-clause-rejected : goal.returns-in-Unusable-clause-rejected
returns-in-Unusable-clause-rejected g c clean why = foreign-status _ {status = Unusable} (c.requires.rest clean)
    (search rules) (λ is. let e = is in cc) (λ _ is. let e = is in cc)

-- ---- the database is a registry of version 1

pub migrate_tables-requires-clause-first : goal.migrate_tables-requires-clause-first
migrate_tables-requires-clause-first g c clean =
    let known = recognized_by_queries c.in-First.is c.requires.rest c.is_registry.ensures.crash
    c.in_ok-is_registry-in-Present.ensures.ours (search rules) clean in
    search (rules, known.found.2, known.rest)

pub returns-in_err-migrate_tables-in-First-clause-crash : goal.returns-in_err-migrate_tables-in-First-clause-crash
returns-in_err-migrate_tables-in-First-clause-crash g c =
    crash_keeps_found (λ clean. (recognized_by_queries c.in-First.is c.requires.rest c.is_registry.ensures.crash
    c.in_ok-is_registry-in-Present.ensures.ours (search rules) clean).found) c.is_registry.ensures.crash
    c.migrate_tables.ensures.crash

pub returns-in_ok-migrate_tables-in-First : goal.returns-in_ok-migrate_tables-in-First
returns-in_ok-migrate_tables-in-First g c =
    let known = recognized_by_queries c.in-First.is c.requires.rest c.is_registry.ensures.crash
    c.in_ok-is_registry-in-Present.ensures.ours (search rules) in
    let accepted = accepted-step (λ clean. (known clean).found) c.is_registry.ensures.crash
    c.migrate_tables.ensures.crash c.in_ok-migrate_tables-in-First.ensures.made
    (λ clean held. absurd (first-is_not_second (known (clean_before c.migrate_tables.ensures.crash clean)) held))
    (λ clean. rw (known (clean_before c.migrate_tables.ensures.crash clean)).same.0.now_is at
    (c.in_ok-migrate_tables-in-First.ensures.others clean)) in search (rules, accepted, no_error, ok_no_error)

-- ---- the database is a registry of version 2

pub rewrite_version-requires : goal.rewrite_version-requires
rewrite_version-requires g c clean =
    recognized_ready (recognized_by_queries c.in-Second.is c.requires.rest c.is_registry.ensures.crash
    c.in_ok-is_registry-in-Present.ensures.ours (search rules) clean)

pub returns-in_err-rewrite_version-in-Second-clause-crash : goal.returns-in_err-rewrite_version-in-Second-clause-crash
returns-in_err-rewrite_version-in-Second-clause-crash g c =
    crash_keeps_found (λ clean. found_ready (recognized_by_queries c.in-Second.is c.requires.rest
    c.is_registry.ensures.crash c.in_ok-is_registry-in-Present.ensures.ours (search rules) clean))
    c.is_registry.ensures.crash c.rewrite_version.ensures.crash

pub returns-in_ok-rewrite_version-in-Second : goal.returns-in_ok-rewrite_version-in-Second
returns-in_ok-rewrite_version-in-Second g c =
    let known = recognized_by_queries c.in-Second.is c.requires.rest c.is_registry.ensures.crash
    c.in_ok-is_registry-in-Present.ensures.ours (search rules) in
    let new = g.C.SqlConnection.state c.rewrite_version.new.conn in
    let was = λ (clean : HasCleanDisk new). known (clean_before c.rewrite_version.ensures.crash clean) in
    let kept = λ (clean : HasCleanDisk new).
    keeps_rows_from_earlier (was clean).same
    (c.in_ok-rewrite_version-in-Second.ensures.rows clean (recognized_ready (was clean))) in
    let accepted = accepted-step (λ clean. found_ready (known clean)) c.is_registry.ensures.crash
    c.rewrite_version.ensures.crash c.in_ok-rewrite_version-in-Second.ensures.renewed (λ clean held. (
      kept clean,
      rewrites_from_earlier _ _ _ (rw (was clean).same.0.now_is at (was clean).found.2.registry.tables) (was clean).same
          c.is_registry.ensures.crash
          (run-rewrites _ _ _ (recognized_ready (was clean)) (c.in_ok-rewrite_version-in-Second.ensures.runs clean)),
    )) (λ clean table has _ _. (rw (kept clean).schema has, (kept clean).rows table has)) in
    search (rules, accepted, no_error, ok_no_error)

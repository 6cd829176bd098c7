use Rattle.std.proofs.Common.{◌≡◌, ◌++◌, ◌∷◌, [], ◌+◌, ◌-◌, length, take, drop, append_assoc, ap, refl}
use Rattle.std.proofs.Common.{arith, subst, rules, sym, ◌∙◌, length-drop}
use Rattle.std.proofs.Math.Seq.{take-length}
use Rattle.std.proofs.lemmas.Result.{err_from_is_err_and}
use Rattle.gateway_loop.specs.private.LineSplitting.{BreaksInBytes, TakesEndedLines}
use Rattle.gateway_loop.proofs.LineLemmas.{all-HasNoLf, take-HasNoLf}
use Rattle.gateway_loop.proofs.LineSplitterLemmas.{breaks_in-line, takes_lines-append, takes_lines-break}
use Rattle.gateway_loop.proofs.LineSplitterLemmas.{takes_lines-line, takes_lines-nothing, takes_lines-partial}
use Rattle.gateway_loop.proofs.ListLemmas.{split_round}
use Rattle.gateway_loop.proofs.line_splitter.LineSplitter.process_bytes.Goals as goal

pub loop-end-init : goal.loop-end-init
loop-end-init g c = record {
  gateway = refl;
  loans = refl;
  idle = c.requires;
  taken = ([], refl, λ tail keeps. takes_lines-nothing c.args.self.now c.requires (search rules) keeps);
}

pub returns-in_err-process_ended_line-clause-stopped : goal.returns-in_err-process_ended_line-clause-stopped
returns-in_err-process_ended_line-clause-stopped g c =
    let splitter = c.loop-end.self in
    let new = c.process_ended_line.new.self in
    let rest = c.loop-end.rest.now in
    let end = c.in-Some.end in
    let found = c.in-Some.ensures in
    let line = take end rest in
    let later = drop (end + 1) rest in
    let (done, all, taken) = c.loop-end.invariant.taken in
    let whole : done ++ (line ++ 10 ∷ later) ≡ c.args.bytes.now =
    ap (λ s. done ++ s) (sym (split_round rest end 10 found.0.high found.1)) ∙ sym all in
    rw (err_from_is_err_and c.from_residual.result c.from_residual.ensures.1).1 (λ tail keeps.
    let before = taken tail keeps in
    subst (BreaksInBytes g.S.DeviceStore.store_state g.O.ReplySink.output c.args.lines c.args.self.now new)
    (append_assoc tail done _ ∙ ap (λ s. tail ++ s) whole)
    (takes_lines-break (line ++ 10 ∷ later) before
    (breaks_in-line splitter new before.rest line later before.keeps.no_lf
    (take-HasNoLf rest end (omega arith) found.0.before)
    (c.in_err-process_ended_line.ensures.taken before.rest before.keeps))))

pub loop-end-preserved : goal.loop-end-preserved
loop-end-preserved g c =
    let splitter = c.loop-end.self in
    let new = c.process_ended_line.new.self in
    let rest = c.loop-end.rest.now in
    let end = c.in-Some.end in
    let found = c.in-Some.ensures in
    let after = c.in_ok-process_ended_line.ensures in
    let line = take end rest in
    let later = drop (end + 1) rest in
    let (done, all, taken) = c.loop-end.invariant.taken in
    let whole : c.args.bytes.now ≡ (done ++ (line ++ 10 ∷ [])) ++ take (length rest - (end + 1)) later =
    all ∙ ap (λ s. done ++ s) (split_round rest end 10 found.0.high found.1
    ∙ sym (append_assoc line (10 ∷ []) later)) ∙ sym (append_assoc done (line ++ 10 ∷ []) later)
    ∙ ap (λ s. (done ++ (line ++ 10 ∷ [])) ++ s) (sym (rw (← length-drop (end + 1) rest) (take-length later))) in
    record {
      gateway = search rules;
      loans = after.loans ∙ c.loop-end.invariant.loans;
      idle = after.idle;
      taken = (
        done ++ (line ++ 10 ∷ []),
        whole,
        λ tail keeps.
            let before = taken tail keeps in
            subst (TakesEndedLines g.S.DeviceStore.store_state g.O.ReplySink.output c.args.lines c.args.self.now new)
            (append_assoc tail done (line ++ 10 ∷ []))
            (takes_lines-append (line ++ 10 ∷ []) before
            (takes_lines-line splitter new before.rest line before.keeps.no_lf
            (take-HasNoLf rest end (omega arith) found.0.before) after.emptied
            (after.taken before.rest before.keeps))),
      );
    }

pub returns-clause-taken : goal.returns-clause-taken
returns-clause-taken g c = λ tail keeps.
    let rest = c.loop-end.rest.now in
    let (done, all, taken) = c.loop-end.invariant.taken in
    rw (all, ← append_assoc tail done rest)
    (takes_lines-partial rest (all-HasNoLf rest c.in_default.ensures) refl c.extend.ensures (taken tail keeps))

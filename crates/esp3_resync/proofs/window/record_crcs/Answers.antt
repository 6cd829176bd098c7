use Rattle.std.proofs.Common.{◌≡◌, ℕ, ◌+◌, List, [], ◌∷◌, ◌++◌, length, take, get_or, refl, arith, append_assoc}
use Rattle.std.proofs.Common.{length-append, length-take}
use Rattle.std.proofs.lemmas.List.{append-nil, length-set, take_all, take_more}
use Rattle.esp3_frames.specs.Check.{check}
use Rattle.esp3_frames.proofs.ForCallers.{crc_of_appended_byte}
use Rattle.esp3_resync.proofs.RunningCrcLemmas.{running_crcs-last, running_crcs-push}
use Rattle.esp3_resync.proofs.window.record_crcs.Goals as goal

pub loop-i-init : goal.loop-i-init
loop-i-init c = record {
  len = refl;
  crcs_are_running = λ g w s at running.
      rw append-nil (running, running_crcs-last g w c.args.crcs.now s c.args.at at running);
}

pub loop-i-preserved : goal.loop-i-preserved
loop-i-preserved c =
    let b = c.args.bytes.now in
    let i = c.loop-i.i in
    let x : ℕ = get_or b i 0 in
    let crc = c.check8_next-all.result in
    record {
      len = grind (arith, length-set);
      crcs_are_running = λ g w s at running.
          let v : List ℕ = w ++ take i b in
          let so_far = c.loop-i.invariant.crcs_are_running g w s at running in
          let more : v ++ x ∷ [] ≡ w ++ take (i + 1) b = grind (arith, take_more b i 0, append_assoc) in
          let is : crc ≡ check (g ++ (v ++ x ∷ [])) =
          grind (arith, crc_of_appended_byte (g ++ v) x, append_assoc, so_far) in
          let place : c.args.at + i + 1 ≡ s + length v + 1 =
          omega (arith, at, length-append w (take i b), length-take i b) in
          let crcs = running_crcs-push g v c.loop-i.crcs s x (c.args.at + i + 1) crc place (omega arith) is so_far.0 in
          rw (← more) (crcs, is);
    }

pub returns-clause-crcs_are_running : goal.returns-clause-crcs_are_running
returns-clause-crcs_are_running c = λ g w s at running.
    let all = take_all c.loop-i.i c.args.bytes.now (omega arith) in
    rw all at (c.loop-i.invariant.crcs_are_running g w s at running).0

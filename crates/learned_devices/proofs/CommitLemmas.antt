-- How the counts of the calls that may commit add up.
use Rattle.std.proofs.Common.{◌≡◌, ◌≤◌, ℕ, ◌+◌, ◌-◌, ◌^◌, min, is_some, Option, Some, None, refl, sym, ap, ◌∙◌, arith}
use Rattle.std.proofs.Common.{Bool, true, false, Result, Ok, Err}
use Rattle.learned_devices.specs.CommitCounts.{with_one_more, AtMostMoreCommits}
use Rattle.learned_devices.specs.StoreCalls.{most_commits_of_learn, most_commits_of_relabel}
use Rattle.learned_devices.specs.declared.fault.LearnFault.{LearnFault}
use Rattle.learned_devices.specs.declared.fault.LearnFault.TheVariants.{Full, Failed}

pub no_more_commits : (most : ℕ) {old new : Option ℕ} → new ≡ old → AtMostMoreCommits most old new
no_more_commits most same = record {
  counted = ap is_some same;
  rise = λ before after was is. let e : Some after ≡ Some before = sym is ∙ same ∙ was in
      let n : after ≡ before = cc in omega arith;
}

pub one_more_commit : {old new : Option ℕ} → new ≡ with_one_more old → AtMostMoreCommits 1 old new
one_more_commit {old} {new} more = rw more (one old)
  where
    one : (old : Option ℕ) → AtMostMoreCommits 1 old (with_one_more old)
    one None = record { counted = refl; rise = λ before after was is. absurd cc }
    one (Some count) = record {
      counted = refl;
      rise = λ before after was is.
          let m : min (count + 1) (2 ^ 64 - 1) ≡ after = cc in
          let n : count ≡ before = cc in omega arith;
    }

pub more_commits_then : {first second : ℕ} {old mid new : Option ℕ} → AtMostMoreCommits first old mid
    → AtMostMoreCommits second mid new → AtMostMoreCommits (first + second) old new
more_commits_then {first} {second} {old} {mid} {new} a b = record {
  counted = b.counted ∙ a.counted;
  rise = λ before after was is. go mid before after was is a b;
}
  where
    go : (mid : Option ℕ) (before after : ℕ) → old ≡ Some before → new ≡ Some after → AtMostMoreCommits first old mid
        → AtMostMoreCommits second mid new → after ≤ before + (first + second)
    go None before after was is a b = let e = a.counted ∙ ap is_some was in absurd cc
    go (Some m) before after was is a b =
        let one : m ≤ before + first = a.rise before m was refl in
        let two : after ≤ m + second = b.rise m after refl is in omega arith

-- a call that leaves the count, and then one that adds at most this many
pub more_commits_after : {most : ℕ} {old mid new : Option ℕ} → mid ≡ old → AtMostMoreCommits most mid new
    → AtMostMoreCommits most old new
more_commits_after {most} {old} {mid} {new} same more = rw (← same) more

pub more_commits_weaker : {fewer most : ℕ} {old new : Option ℕ} → fewer ≤ most → AtMostMoreCommits fewer old new
    → AtMostMoreCommits most old new
more_commits_weaker below more = record {
  counted = more.counted;
  rise = λ before after was is. let h = more.rise before after was is in omega arith;
}

-- each call that updates adds at most one
pub learn_adds_one : {A : Type 0} (r : Result A LearnFault) {old new : Option ℕ}
    → AtMostMoreCommits (most_commits_of_learn r) old new → AtMostMoreCommits 1 old new
learn_adds_one (Err Full) more = more_commits_weaker (omega arith) more
learn_adds_one (Err (Failed fault)) more = more
learn_adds_one (Ok done) more = more

pub relabel_adds_one : {E : Type 0} (r : Result Bool E) {old new : Option ℕ}
    → AtMostMoreCommits (most_commits_of_relabel r) old new → AtMostMoreCommits 1 old new
relabel_adds_one (Ok false) more = more_commits_weaker (omega arith) more
relabel_adds_one (Ok true) more = more
relabel_adds_one (Err e) more = more

-- Counts of the calls that may commit.
use Rattle.std.specs.Prelude.{◌≡◌, ◌≤◌, ℕ, ◌+◌, ◌-◌, ◌^◌, min, is_some, Option, Some}
use Rattle.std.specs.Option.{option_map}

-- the count after one more call that may commit; a count of 64 bits that has reached its maximum does not change
abbrev pub with_one_more : (commits : Option ℕ) → Option ℕ
with_one_more commits = option_map (λ count. min (count + 1) (2 ^ 64 - 1)) commits

-- if commits are counted before, they are counted afterwards, and there were at most this many more
pub record AtMostMoreCommits (most : ℕ) (old new : Option ℕ) : Type 0 where
  pub counted : is_some new ≡ is_some old
  pub rise : (before after : ℕ) → old ≡ Some before → new ≡ Some after → after ≤ before + most

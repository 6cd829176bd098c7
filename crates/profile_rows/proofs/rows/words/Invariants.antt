use Rattle.std.proofs.Common.{◌≡◌, drop, map}
use Rattle.profile_rows.specs.Rows.{word_for}
use Rattle.profile_rows.proofs.rows.words.Given as goal

-- none of the numbers so far is the one to find
abbrev pub invariant-loop-number : goal.invariant-loop-number
invariant-loop-number l =
    word_for (map (λ entry. (entry.0, entry.1.now)) (drop l.number-index l.list)) l.raw
    ≡ word_for (map (λ entry. (entry.0, entry.1.now)) l.list) l.raw

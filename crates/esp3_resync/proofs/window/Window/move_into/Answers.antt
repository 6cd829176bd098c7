use Rattle.std.proofs.Common.{◌≡◌, ℕ, ◌-◌, min, List, ◌++◌, length, take, arith, length-take}
use Rattle.std.proofs.Math.Seq.{take-append-add}
use Rattle.std.proofs.lemmas.List.{append-nil, take_all, take-append-le}
use Rattle.esp3_resync.proofs.window.Window.move_into.Goals as goal

-- the first n items of a ring that is stored in two slices
two_takes : (n k : ℕ) (xs ys : List ℕ) → k ≡ min (length xs) n → take k xs ++ take (n - k) ys ≡ take n (xs ++ ys)
two_takes n k xs ys e = grind (arith, take_all, take-append-add xs ys (n - length xs), take-append-le, append-nil)

pub returns-clause-items : goal.returns-clause-items
returns-clause-items c = grind (arith, two_takes c.args.count c.min-from_front.result, length-take)

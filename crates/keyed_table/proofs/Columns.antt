-- Values that the type of their column leaves unchanged, and CHECKs that a number is between two others.
use Rattle.keyed_table.proofs.Common.{◌≡◌, ℤ, refl, ◌≤ℤ◌, Bool, true, not, ◌&&◌, Some, arith, cond_both, and_parts}
use Rattle.keyed_table.proofs.Common.{Null, Int, from_truth, Binary, value_cmp-Int, Compare}
use Rattle.sqlite.specs.Cast.{cast}
use Rattle.sqlite_sql.specs.Ops.{unary, binary, is_false, truth, and3}
use Rattle.sqlite_sql.specs.declared.ops.BinaryOp.TheVariants.{And}
use Rattle.sqlite_sql.specs.declared.ops.CompareOp.TheVariants.{Le, Ge}
use Rattle.sqlite.specs.Kind.TheVariants as kind

pub cast_int : (n : ℤ) → cast kind.Integer (Int n) ≡ Int n
unfolding unary
cast_int n = cond_both _ (Int n) (Int n) (λ v. v ≡ Int n) (λ _. refl) (λ _. refl)

pub cast_none : cast kind.Integer Null ≡ Null
unfolding unary
cast_none = cond_both _ Null Null (λ v. v ≡ Null) (λ _. refl) (λ _. refl)

pub ruleset casts = (cast_int, cast_none)

-- the test of a CHECK that a number is between two others
abbrev pub is_between : ℤ → ℤ → ℤ → Bool
is_between low high n =
    not (is_false (binary And (binary (Compare Ge Binary) (Int n) (Int low))
    (binary (Compare Le Binary) (Int n) (Int high))))

truths : (a b : Bool) → not (is_false (from_truth (and3 (truth (from_truth (Some a))) (truth (from_truth (Some b))))))
    ≡ (a && b)
truths a b = search arith

pub lies_between : (low high n : ℤ) → is_between low high n ≡ true → (low ≤ℤ n) × (n ≤ℤ high)
unfolding binary
lies_between low high n passes = search (arith, and_parts, truths, value_cmp-Int)

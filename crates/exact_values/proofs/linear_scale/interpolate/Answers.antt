use Rattle.std.proofs.lemmas.Grind.{common_steps}
use Rattle.std.proofs.Common.{◌≡◌, arith, w64, ap, ◌∙◌}
use Rattle.std.specs.Prelude.{pos, ◌+ℤ◌, ◌-ℤ◌, ◌*ℤ◌}
use Rattle.std.proofs.lemmas.Int.{ints}
use mir.Val.{to_z, of_z}
use Rattle.exact_values.specs.Scale.{interpolated, distance}
use Rattle.exact_values.proofs.Line.{StandsFor-distances}
use Rattle.exact_values.proofs.linear_scale.interpolate.Goals as goal

pub overflow_add-base : goal.overflow_add-base
overflow_add-base c =
    omega (
      arith,
      ints,
      c.times-base.ensures.above,
      c.times-base.ensures.below,
      c.times-more.ensures.above,
      c.times-more.ensures.below,
    )

width : (c : goal.After-reduced) → c.abs_diff-width.result ≡ distance c.args.raw_lo c.args.raw_hi
width c = omega arith

above : (c : goal.After-reduced) → c.abs_diff-above.result ≡ distance c.args.raw c.args.raw_lo
above c = omega arith

low : (c : goal.After-reduced) → to_z w64 (of_z w64 c.from-3.result) ≡ c.args.tenths_lo
low c = omega (arith, ints)

rise : (c : goal.After-reduced)
    → to_z w64 (of_z w64 (to_z w64 (of_z w64 c.from.result) -ℤ to_z w64 (of_z w64 c.from-2.result)))
    ≡ c.args.tenths_hi -ℤ c.args.tenths_lo
rise c = omega (arith, ints)

top : (c : goal.After-reduced) →
    to_z w64 (of_z w64 (to_z w64 (of_z w64 c.times-base.result) +ℤ to_z w64 (of_z w64 c.times-more.result)))
    ≡ c.args.tenths_lo *ℤ pos (distance c.args.raw_lo c.args.raw_hi) +ℤ (c.args.tenths_hi -ℤ c.args.tenths_lo) *ℤ pos
    (distance c.args.raw c.args.raw_lo)
top c =
    let sum : to_z w64 (of_z w64 (to_z w64 (of_z w64 c.times-base.result) +ℤ to_z w64 (of_z w64 c.times-more.result)))
    ≡ c.times-base.result +ℤ c.times-more.result
    = omega (
      arith,
      ints,
      c.times-base.ensures.above,
      c.times-base.ensures.below,
      c.times-more.ensures.above,
      c.times-more.ensures.below,
    ) in
    sum ∙ (ap (λ z. z +ℤ c.times-more.result)
    (c.times-base.ensures.value
    ∙ (ap (λ z. z *ℤ pos c.abs_diff-width.result) (low c) ∙ ap (λ n. c.args.tenths_lo *ℤ pos n) (width c)))
    ∙ ap (λ z. c.args.tenths_lo *ℤ pos (distance c.args.raw_lo c.args.raw_hi) +ℤ z)
    (c.times-more.ensures.value
    ∙ (ap (λ z. z *ℤ pos c.abs_diff-above.result) (rise c)
    ∙ ap (λ n. (c.args.tenths_hi -ℤ c.args.tenths_lo) *ℤ pos n) (above c))))

pub returns-clause-exact : goal.returns-clause-exact
unfolding interpolated
returns-clause-exact c = grind (arith, common_steps, top, width)

pub returns-clause-value : goal.returns-clause-value
returns-clause-value c = grind (arith, common_steps, StandsFor-distances, top, width)

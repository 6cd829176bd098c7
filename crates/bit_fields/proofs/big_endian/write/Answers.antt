use Rattle.std.proofs.Common.{◌≡◌, ◌+◌, ◌-◌, ◌*◌, ◌/◌, ◌%◌, ◌^◌, ◌<◌, take, length, arith, lit<, sym}
use Rattle.std.proofs.lemmas.Nat.{and_mask, shr-shr, shr_split, mod_below}
use Rattle.std.proofs.Math.Nat.{div-eq_of_lt}
use Rattle.std.proofs.lemmas.List.{take_more_set}
use native.Mathlib.Numerals.{unary_clauses}
use Rattle.bit_fields.specs.Bits.{bits, number}
use Rattle.bit_fields.proofs.Bytes.{number-bits-push}
use Rattle.bit_fields.proofs.big_endian.write.Goals as goal

pub loop-i-init : goal.loop-i-init
unfolding number bits
loop-i-init c = simp unary_clauses (sym (div-eq_of_lt c.requires.fits))

pub loop-i-preserved : goal.loop-i-preserved
loop-i-preserved c =
    let i = c.loop-i.i in
    let n = length c.args.bytes.now in
    let wide = c.args.wide in
    let below = 8 * (n - 1 - i) in
    let b = wide / 2 ^ below % 2 ^ 8 in
    let before : 8 * (n - i) ≡ below + 8 = omega arith in
    let after : 8 * (n - (i + 1)) ≡ below = omega arith in
    let small : b < 256 = mod_below (wide / 2 ^ below) 256 (lit< tt) in
    rw (
      and_mask (wide / 2 ^ below) 8,
      take_more_set c.loop-i.bytes i b (omega arith),
      number-bits-push (take i c.loop-i.bytes) b small,
      c.loop-i.invariant,
      before,
      after,
      ← shr-shr wide below 8,
    ) (shr_split (wide / 2 ^ below) 8)

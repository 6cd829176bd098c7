use Rattle.std.proofs.Common.{◌≡◌, ◌*◌, ◌-◌, ◌/◌, ◌^◌, take}
use Rattle.bit_fields.specs.Bits.{bits, number}
use Rattle.bit_fields.proofs.big_endian.write.Given as goal

abbrev pub invariant-loop-i : goal.invariant-loop-i
invariant-loop-i l = number (bits (take l.i l.bytes)) ≡ l.wide / 2 ^ (8 * (l.count - l.i))

use Rattle.std.proofs.Common.{◌≡◌, take}
use Rattle.bit_fields.specs.Bits.{bits, number}
use Rattle.bit_fields.proofs.big_endian.read.Given as goal

abbrev pub invariant-loop-byte : goal.invariant-loop-byte
invariant-loop-byte l = l.wide ≡ number (bits (take l.byte-index l.bytes))

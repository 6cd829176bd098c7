use Rattle.std.proofs.Common.{◌^◌, ◌<◌, get_or, take, length, refl, arith, length-take-le}
use Rattle.std.proofs.lemmas.Grind.{common_steps}
use Rattle.bit_fields.specs.Bits.{bits, number}
use Rattle.bit_fields.proofs.Bytes.{number_bits_more, number-bits-few}
use Rattle.bit_fields.proofs.big_endian.read.Goals as goal

pub loop-byte-init : goal.loop-byte-init
unfolding number bits
loop-byte-init c = refl

pub loop-byte-preserved : goal.loop-byte-preserved
loop-byte-preserved c =
    let bytes = c.args.bytes.now in
    let i = c.loop-byte.byte-index in
    let within : i < length bytes = omega arith in
    let so_far : number (bits (take i bytes)) < 2 ^ 32 =
    number-bits-few (take i bytes) 4 (omega (arith, length-take-le i bytes (omega arith))) in
    let small : get_or bytes i 0 < 256 = omega (arith, c.type_inv.bytes i) in
    grind (arith, common_steps, number_bits_more bytes i within small)

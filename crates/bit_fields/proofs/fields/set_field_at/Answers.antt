use Rattle.std.proofs.Common.{◌≡◌, ◌+◌, ◌-◌, ◌*◌, ◌^◌, ◌<◌, take, drop, length, arith, length-drop, length-take-le}
use Rattle.bit_fields.proofs.Bytes.{number-bits-below}
use Rattle.bit_fields.proofs.Middle.{shifted_and_masked, number-with_middle-below}
use Rattle.bit_fields.proofs.FieldLemmas.{WithField-by_part}
use Rattle.bit_fields.proofs.fields.set_field_at.Goals as goal

pub write-requires-clause-fits : goal.write-requires-clause-fits
write-requires-clause-fits c =
    let span = c.byte_span_of-first.result in
    let len = c.args.len in
    let wide = c.read-wide.result in
    let part = take (span.end - span.first) (drop span.first c.args.bytes.now) in
    let before = c.args.offset - 8 * span.first in
    let fits : c.from.result < 2 ^ len = rw c.from.ensures c.requires.fits in
    let size : 8 * length part ≡ before + (len + span.below) = grind (arith, length-take-le, length-drop) in
    let small : wide < 2 ^ (before + (len + span.below)) = rw (c.read-wide.ensures, ← size) (number-bits-below part) in
    rw (shifted_and_masked wide span.below len c.from.result c.read-wide.type_inv (omega arith) fits, size)
    (number-with_middle-below wide before len span.below c.from.result small fits)

pub returns : goal.returns
returns c =
    let span = c.byte_span_of-first.result in
    let len = c.args.len in
    let fits : c.from.result < 2 ^ len = rw c.from.ensures c.requires.fits in
    let new =
    shifted_and_masked c.read-wide.result span.below len c.from.result c.read-wide.type_inv (omega arith) fits in
    WithField-by_part c.args.bytes.now c.write.new.bytes c.args.offset len c.args.value span.first
    (span.end - span.first) span.below (omega arith) (omega arith) (omega arith) c.requires.fits c.write.ensures.len
    (grind (arith, new))

use Rattle.std.proofs.Common.{◌≡◌, ◌-◌, ◌*◌, ◌%◌, ◌^◌, arith}
use Rattle.std.proofs.lemmas.Nat.{and_mask, one_shl}
use Rattle.bit_fields.proofs.FieldLemmas.{field_from_part}
use Rattle.bit_fields.proofs.fields.field_at.Goals as goal

pub returns-clause-value : goal.returns-clause-value
returns-clause-value c =
    let span = c.byte_span_of-first.result in
    let mask : 1 * 2 ^ c.args.len % 2 ^ 64 ≡ 2 ^ c.args.len = one_shl c.args.len 64 (omega arith) in
    rw (mask, and_mask, c.read-wide.ensures)
    (field_from_part c.args.bytes.now c.args.offset c.args.len span.first (span.end - span.first) span.below
    (omega arith) (omega arith) (omega arith))

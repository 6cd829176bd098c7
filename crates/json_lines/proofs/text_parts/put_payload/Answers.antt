use Rattle.std.proofs.Common.{take, append_assoc, append-nil, add-one, sym, arith}
use Rattle.hex.specs.Hex.{encode_with, encode_upper, IsBytes}
use Rattle.json_lines.proofs.HexTexts.{encode_upper-more}
use Rattle.json_lines.proofs.text_parts.put_payload.Goals as goal

pub loop-byte-init : goal.loop-byte-init
unfolding encode_with
loop-byte-init c = record { items = sym (append-nil _); len = omega arith }

pub loop-byte-preserved : goal.loop-byte-preserved
loop-byte-preserved c =
    let bytes = c.args.payload.now in
    let fit : IsBytes bytes = λ i. omega (arith, c.type_inv.payload i) in
    let more = encode_upper-more bytes c.loop-byte.byte-index fit (omega arith) in
    record {
      items = rw (c.put.ensures.items, c.byte_digits.ensures.text, c.loop-byte.invariant.items, add-one, more)
          (append_assoc c.push.new.self.items (encode_upper (take c.loop-byte.byte-index bytes)) _);
      len = omega (arith, c.put.ensures.len, c.loop-byte.invariant.len);
    }

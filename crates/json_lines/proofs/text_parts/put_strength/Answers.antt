use Rattle.std.proofs.Common.{◌≡◌, length, ap, arith, rules}
use Rattle.json_lines.specs.Lines.{dbm_text}
use Rattle.json_lines.proofs.PacketTexts.{length-dbm_text}
use Rattle.json_lines.proofs.text_parts.put_strength.Goals as goal

pub put-requires : goal.put-requires
put-requires c =
    let text : c.as_bytes.result.now ≡ dbm_text c.args.byte = search rules in
    omega (arith, ap length text, length-dbm_text c.args.byte (omega arith))

pub returns-clause-len : goal.returns-clause-len
returns-clause-len c =
    let text : c.as_bytes.result.now ≡ dbm_text c.args.byte = search rules in
    omega (arith, ap length text, length-dbm_text c.args.byte (omega arith))

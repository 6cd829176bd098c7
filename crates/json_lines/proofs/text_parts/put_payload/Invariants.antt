use Rattle.std.proofs.Common.{◌≡◌, ◌++◌, ◌+◌, ◌*◌, take}
use Rattle.arrayvec.specs.ArrayVec.{array_vec_len}
use Rattle.hex.specs.Hex.{encode_upper}
use Rattle.json_lines.proofs.text_parts.put_payload.Given as goal

abbrev pub invariant-loop-byte : goal.invariant-loop-byte
invariant-loop-byte l = record {
  items : l.out.items ≡ l.initial.out.items ++ encode_upper (take l.byte-index l.payload);
  len : array_vec_len l.out ≡ array_vec_len l.initial.out + 2 * l.byte-index;
}

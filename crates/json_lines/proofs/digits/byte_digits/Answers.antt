use Rattle.std.proofs.Common.{◌≡◌, ℕ, ◌+◌, ◌*◌, ◌/◌, ◌%◌, Bool, ◌&&◌, ◌==◌, get_or, slice_index}
use Rattle.std.proofs.Common.{sym, subst, arith, refl, IsAscii}
use Rattle.std.proofs.lemmas.Bool.{and_parts, eqb-true}
use Rattle.hex.specs.Hex.{encode_with, upper_digits}
use Rattle.json_lines.specs.declared.digits.TheConstants.{HEX_PAIRS}
use Rattle.json_lines.proofs.HexTexts.{ascii-byte, holds_below-at}
use Rattle.json_lines.proofs.digits.byte_digits.Goals as goal

-- the table has both digits of a byte
abbrev are_in_table : ℕ → Bool
are_in_table byte =
    (get_or HEX_PAIRS (2 * byte) 0 == slice_index upper_digits (byte / 16))
    && (get_or HEX_PAIRS (2 * byte + 1) 0 == slice_index upper_digits (byte % 16))

pub returns-clause-text : goal.returns-clause-text
unfolding encode_with
returns-clause-text c =
    let byte = c.args.byte in
    let fits : byte % 256 ≡ byte = omega arith in
    let both = and_parts (get_or HEX_PAIRS (2 * byte) 0 == slice_index upper_digits (byte / 16)) _
    (holds_below-at are_in_table 256 byte refl (omega arith)) in
    let high = eqb-true (get_or HEX_PAIRS (2 * byte) 0) (slice_index upper_digits (byte / 16)) both.0 in
    let low = eqb-true (get_or HEX_PAIRS (2 * byte + 1) 0) (slice_index upper_digits (byte % 16)) both.1 in
    rw (c.from-at.ensures, fits, high, low) refl

pub returns-clause-ascii : goal.returns-clause-ascii
returns-clause-ascii c = subst IsAscii (sym (returns-clause-text c)) (ascii-byte c.args.byte)

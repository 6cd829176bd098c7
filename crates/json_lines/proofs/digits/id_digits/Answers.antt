use Rattle.std.proofs.Common.{◌≡◌, ℕ, ◌/◌, ◌%◌, sym, subst, arith, refl, IsAscii}
use Rattle.hex.specs.Hex.{encode_with}
use Rattle.json_lines.proofs.HexTexts.{ascii-encode_upper}
use Rattle.json_lines.proofs.digits.id_digits.Goals as goal

pub returns-clause-text : goal.returns-clause-text
unfolding encode_with
returns-clause-text c =
    let same : (n : ℕ) → n % 256 % 256 ≡ n % 256 = λ (n : ℕ). omega arith in
    rw (c.byte_digits-first.ensures.text, c.byte_digits-second.ensures.text, c.byte_digits-third.ensures.text)
    (rw (c.byte_digits-fourth.ensures.text, c.to_be_bytes.ensures, same (c.args.id / 16777216))
    (rw (same (c.args.id / 65536), same (c.args.id / 256), same c.args.id) refl))

pub returns-clause-ascii : goal.returns-clause-ascii
returns-clause-ascii c = subst IsAscii (sym (returns-clause-text c)) (ascii-encode_upper _)

use Rattle.std.proofs.Common.{sym, subst, rules, IsAscii}
use Rattle.hex.specs.Hex.{encode_with}
use Rattle.json_lines.proofs.HexTexts.{ascii-eep}
use Rattle.json_lines.proofs.digits.eep_digits.Goals as goal

pub returns-clause-text : goal.returns-clause-text
unfolding encode_with
returns-clause-text c = search rules

pub returns-clause-ascii : goal.returns-clause-ascii
returns-clause-ascii c = subst IsAscii (sym (returns-clause-text c)) (ascii-eep c.args.eep)

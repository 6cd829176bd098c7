use Rattle.std.proofs.Common.{sym, subst, IsAscii}
use Rattle.hex.specs.Hex.{encode_with}
use Rattle.json_lines.proofs.HexTexts.{ascii-learn_as_text}
use Rattle.json_lines.proofs.digits.learn_as_text.Goals as goal

pub returns-clause-text : goal.returns-clause-text
unfolding encode_with
returns-clause-text c = rw c.eep_digits.ensures.text

pub returns-clause-ascii : goal.returns-clause-ascii
returns-clause-ascii c = subst IsAscii (sym (returns-clause-text c)) (ascii-learn_as_text c.args.eep)

use Rattle.std.proofs.Common.{rules}
use Rattle.json_lines.proofs.parts.put_maker.Goals as goal

pub returns-in-Some : goal.returns-in-Some
returns-in-Some g c = search rules

use Rattle.std.proofs.Common.{rules}
use Rattle.json_lines.proofs.reading.put_reading.Goals as goal

pub returns-in-OutOfRange : goal.returns-in-OutOfRange
returns-in-OutOfRange g c = search rules

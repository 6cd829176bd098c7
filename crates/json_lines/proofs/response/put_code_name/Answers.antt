use Rattle.std.proofs.Common.{rules}
use Rattle.json_lines.proofs.response.put_code_name.Goals as goal

pub returns-in-2 : goal.returns-in-2
returns-in-2 g c = search rules

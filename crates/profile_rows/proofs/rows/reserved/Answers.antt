use Rattle.std.proofs.Common.{rules}
use Rattle.profile_rows.proofs.rows.reserved.Goals as goal

pub returns : goal.returns
returns c = search rules

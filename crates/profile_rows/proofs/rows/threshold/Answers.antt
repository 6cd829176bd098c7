use Rattle.std.proofs.Common.{rules}
use Rattle.profile_rows.proofs.rows.threshold.Goals as goal

pub returns : goal.returns
returns c = search rules

use Rattle.std.proofs.Common.{rules}
use Rattle.json_lines.proofs.teach.Draft.tell.Goals as goal

pub prove-unreachable-requires : goal.prove-unreachable-requires
prove-unreachable-requires c = search rules

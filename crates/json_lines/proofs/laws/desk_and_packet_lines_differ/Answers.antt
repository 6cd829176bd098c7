use Rattle.json_lines.proofs.Distinguishable.{distinguishable}
use Rattle.json_lines.proofs.laws.desk_and_packet_lines_differ.Goals as goal

pub returns : goal.returns
returns c = distinguishable

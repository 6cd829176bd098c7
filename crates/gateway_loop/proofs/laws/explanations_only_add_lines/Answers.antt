use Rattle.gateway_loop.proofs.ExplainedLemmas.{explanations_only_add_lines}
use Rattle.gateway_loop.proofs.laws.explanations_only_add_lines.Goals as goal

pub returns : goal.returns
returns c = explanations_only_add_lines

use Rattle.std.proofs.lemmas.Grind.{common_steps}
use Rattle.std.proofs.Common.{arith}
use Rattle.clap.proofs.WalkLemmas.{one_text-rows}
use Rattle.gateway_cli.proofs.CommandLemmas.{turns-read}
use Rattle.gateway_cli.proofs.option_values.required_turns.Goals as goal

pub unreachable-requires : goal.unreachable-requires
unreachable-requires c = grind (arith, common_steps, one_text-rows, turns-read)

pub returns : goal.returns
returns c = grind (arith, common_steps, one_text-rows, turns-read)

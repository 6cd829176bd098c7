use Rattle.std.proofs.lemmas.Grind.{common_steps}
use Rattle.std.proofs.Common.{arith}
use Rattle.clap.proofs.WalkLemmas.{first_value-rows}
use Rattle.gateway_cli.proofs.option_values.given_file.Goals as goal

pub unreachable-requires : goal.unreachable-requires
unreachable-requires c = grind (arith, common_steps, first_value-rows)

pub returns : goal.returns
returns c = grind (arith, common_steps, first_value-rows)

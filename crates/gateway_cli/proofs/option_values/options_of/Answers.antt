use Rattle.std.proofs.lemmas.Grind.{common_steps}
use Rattle.std.proofs.Common.{arith}
use Rattle.std.proofs.Common.{◌≡◌, ap, sym, Option, Some, ◌∙◌}
use Rattle.std.specs.Prelude.{option_and_then}
use Rattle.clap.specs.Words.{Text, first_of, found_of, rows_of, subcommand_rows_of}
use Rattle.clap.specs.declared.parser.matches.ArgMatches.{ArgMatches}
use Rattle.clap.proofs.WalkLemmas.{first_value-rows, one_text-rows}
use Rattle.gateway_cli.specs.CommandLine.{option_text, rows_if_replay_or_live}
use Rattle.gateway_cli.proofs.CommandLemmas.{flag-read, explain-of_rows}
use Rattle.gateway_cli.proofs.option_values.options_of.Goals as goal

-- the matches of a subcommand that is `replay` or `live`
abbrev Served : (matches given : ArgMatches) → Type 0
Served matches given =
    option_and_then rows_if_replay_or_live (subcommand_rows_of matches) ≡ Some (rows_of (found_of given))

-- a text read from them
text_read : (matches given : ArgMatches) (id : Text) (read : Option Text) → Served matches given
    → read ≡ first_of id (rows_of (found_of given)) → read ≡ option_text id (subcommand_rows_of matches)
text_read matches given id read served is = is ∙ sym (ap (option_and_then (first_of id)) served)

pub returns-in_err-get_str-clause-base : goal.returns-in_err-get_str-clause-base
returns-in_err-get_str-clause-base c = grind (arith, common_steps, first_value-rows, text_read)

pub returns-in_err-base_of-clause-base : goal.returns-in_err-base_of-clause-base
returns-in_err-base_of-clause-base c = grind (arith, common_steps, first_value-rows, text_read)

pub returns-clause-base : goal.returns-clause-base
returns-clause-base c = grind (arith, common_steps, first_value-rows, text_read)

pub returns-clause-db : goal.returns-clause-db
returns-clause-db c = grind (arith, common_steps, first_value-rows, text_read)

pub returns-clause-explain : goal.returns-clause-explain
returns-clause-explain c = grind (arith, common_steps, flag-read, explain-of_rows, one_text-rows)

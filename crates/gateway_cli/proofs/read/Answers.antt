use Rattle.std.proofs.Common.{◌≡◌, Option, Some, ap, codes, inr, map, subst, sym, ◌∙◌}
use Rattle.std.specs.Prelude.{option_and_then, option_map, IfSome}
use Rattle.std.specs.String.{string_bytes}
use Rattle.std.proofs.lemmas.Result.{err_from_is_err_and}
use Rattle.clap.specs.Words.{App, takes}
use Rattle.gateway_cli.specs.Bases.{base_in}
use Rattle.gateway_cli.specs.CommandLine.{SubcommandAsksFor, option_flag, option_text}
use Rattle.gateway_cli.proofs.CommandLemmas.{subcommand-has_required, subcommand_rows-given, clap-rejects, clap-accepts}
use Rattle.gateway_cli.proofs.read.Goals as goal

-- what holds of each option that is found
at_some : {T : Type 0} (P : T → Type 0) (found : Option T) (x : T) → found ≡ Some x → IfSome found P → P x
at_some P found x is holds = subst (λ (o : Option _). IfSome o P) is holds

pub options_of-requires : goal.options_of-requires
options_of-requires c =
    subcommand-has_required (map string_bytes c.args.words.now) c.in_ok-command.field-0 c.in_ok-matches.matches
    c.in_ok-command.ensures c.in_ok-matches.ensures.kinds c.in_ok-matches.ensures.matches

pub returns-in_err-matches-clause-passes : goal.returns-in_err-matches-clause-passes
returns-in_err-matches-clause-passes c =
    let exit = err_from_is_err_and c.from_residual-in_err-matches.result c.from_residual-in_err-matches.ensures.1 in
    rw (exit.1, exit.2)
    (λ taken. inr (c.in_err-matches.ensures.passes
    (ap (λ (app : App). takes app (map string_bytes c.args.words.now)) c.in_ok-command.ensures ∙ taken)))

pub returns-in_err-matches-clause-rejected : goal.returns-in_err-matches-clause-rejected
returns-in_err-matches-clause-rejected c =
    let exit = err_from_is_err_and c.from_residual-in_err-matches.result c.from_residual-in_err-matches.ensures.1 in
    rw (exit.1, exit.2)
    (clap-rejects (map string_bytes c.args.words.now) c.in_ok-command.field-0 c.in_err-matches.field-0.0
    c.in_ok-command.ensures c.in_err-matches.ensures.kinds)

pub returns-in-Some-clause-taken : goal.returns-in-Some-clause-taken
returns-in-Some-clause-taken c =
    clap-accepts (map string_bytes c.args.words.now) c.in_ok-command.field-0 c.in_ok-command.ensures
    c.in_ok-matches.ensures.kinds

pub returns-in-Some-clause-base : goal.returns-in-Some-clause-base
returns-in-Some-clause-base c =
    let found = subcommand_rows-given (map string_bytes c.args.words.now) c.in_ok-command.field-0
    c.in_ok-matches.matches
    c.in_ok-command.ensures c.in_ok-matches.ensures.matches in
    ap (λ o. option_and_then base_in (option_text (codes "base") o)) (sym found) ∙ sym c.options_of.ensures.base
    ∙ ap (option_map (λ (options : _). options.base)) c.in-Some.is

pub returns-in-Some-clause-db : goal.returns-in-Some-clause-db
returns-in-Some-clause-db c =
    at_some _ c.options_of.result c.in-Some.options c.in-Some.is c.options_of.ensures.db
    ∙ ap (option_text (codes "db"))
    (subcommand_rows-given (map string_bytes c.args.words.now) c.in_ok-command.field-0 c.in_ok-matches.matches
    c.in_ok-command.ensures c.in_ok-matches.ensures.matches)

pub returns-in-Some-clause-explain : goal.returns-in-Some-clause-explain
returns-in-Some-clause-explain c =
    at_some _ c.options_of.result c.in-Some.options c.in-Some.is c.options_of.ensures.explain
    ∙ ap (option_flag (codes "explain"))
    (subcommand_rows-given (map string_bytes c.args.words.now) c.in_ok-command.field-0 c.in_ok-matches.matches
    c.in_ok-command.ensures c.in_ok-matches.ensures.matches)

pub returns-in-Some-clause-service : goal.returns-in-Some-clause-service
returns-in-Some-clause-service c =
    subst (λ found. SubcommandAsksFor found c.in-Some.options.service)
    (subcommand_rows-given (map string_bytes c.args.words.now) c.in_ok-command.field-0 c.in_ok-matches.matches
    c.in_ok-command.ensures c.in_ok-matches.ensures.matches)
    (at_some _ c.options_of.result c.in-Some.options c.in-Some.is c.options_of.ensures.service)

pub returns-clause-rejected : goal.returns-clause-rejected
returns-clause-rejected c =
    let words = map string_bytes c.args.words.now in
    let found = subcommand_rows-given words c.in_ok-command.field-0 c.in_ok-matches.matches c.in_ok-command.ensures
    c.in_ok-matches.ensures.matches in (
      clap-accepts words c.in_ok-command.field-0 c.in_ok-command.ensures c.in_ok-matches.ensures.kinds,
      ap (λ o. option_and_then base_in (option_text (codes "base") o)) (sym found) ∙ sym c.options_of.ensures.base
          ∙ ap (option_map (λ (options : _). options.base)) c.in-None.is,
    )

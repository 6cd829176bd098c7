use Rattle.std.proofs.Common.{rules, codes, ◌≡◌, ◌∙◌}
use Rattle.std.proofs.lemmas.Result.{IfOk-weaker}
use Rattle.clap.specs.Words.{app_of, new_app, with_rule}
use Rattle.gateway_cli.specs.CommandLine.{base_rule, db_rule, explain_rule, live_app_with_base, live_app_with_paths}
use Rattle.gateway_cli.specs.CommandLine.{required_rule, turns_rule}
use Rattle.gateway_cli.proofs.CommandLemmas.{app_of-added_arg}
use Rattle.gateway_cli.proofs.commands.live_command.Goals as goal

pub returns : goal.returns
returns c =
    let about_is : app_of c.about.result ≡ app_of c.new.result = search rules in
    let based = app_of-added_arg _ _ _ (new_app (codes "live")) base_rule c.in_ok-arg.ensures
    c.base_option.ensures.local
    (about_is ∙ c.new.ensures.app) c.base_option.ensures.rule in
    let serial = app_of-added_arg _ _ _ live_app_with_base (required_rule (codes "serial")) c.in_ok-arg-2.ensures
    c.path_option.ensures.local based c.path_option.ensures.rule in
    let desk = app_of-added_arg _ _ _ _ (required_rule (codes "desk")) c.in_ok-arg-3.ensures
    c.path_option-2.ensures.local
    serial c.path_option-2.ensures.rule in
    let out = app_of-added_arg _ _ _ _ (required_rule (codes "out")) c.in_ok-arg-4.ensures
    c.path_option-3.ensures.local desk
    c.path_option-3.ensures.rule in
    let turns = app_of-added_arg _ _ _ live_app_with_paths turns_rule c.in_ok-arg-5.ensures
    c.turns_option.ensures.local out
    c.turns_option.ensures.rule in
    let db = app_of-added_arg _ _ _ (with_rule live_app_with_paths turns_rule) db_rule c.in_ok-arg-6.ensures
    c.db_option.ensures.local turns c.db_option.ensures.rule in
    IfOk-weaker c.arg-7.result _ _ (λ r added. app_of-added_arg _ r _
    (with_rule (with_rule live_app_with_paths turns_rule)
    db_rule) explain_rule added c.explain_option.ensures.local db c.explain_option.ensures.rule) c.arg-7.ensures

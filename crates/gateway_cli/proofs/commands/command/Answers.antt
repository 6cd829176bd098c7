use Rattle.std.proofs.Common.{rules, ap, codes, refl, ◌≡◌, ◌∙◌}
use Rattle.std.proofs.lemmas.Result.{IfOk-weaker}
use Rattle.clap.specs.Words.{app_of, new_app}
use Rattle.gateway_cli.specs.CommandLine.{live_app, replay_app, with_subcommand_required, with_version}
use Rattle.gateway_cli.proofs.CommandLemmas.{app_of-added_subcommand}
use Rattle.gateway_cli.proofs.commands.command.Goals as goal

pub returns : goal.returns
returns c =
    let named : app_of c.in_ok-bin_name.field-0 ≡ app_of c.new.result = search rules in
    let reported : app_of c.about.result ≡ app_of c.in_ok-bin_name.field-0 = search rules in
    let versioned : app_of c.version.result ≡ with_version (app_of c.about.result) = search rules in
    let required : app_of c.subcommand_required.result ≡ with_subcommand_required (app_of c.version.result) =
    search rules in
    let above : app_of c.subcommand_required.result
    ≡ with_subcommand_required (with_version (new_app (codes "enogate"))) =
    required ∙ ap with_subcommand_required (versioned ∙ ap with_version (reported ∙ named ∙ c.new.ensures.app)) in
    let replay = app_of-added_subcommand _ _ _ _ replay_app c.in_ok-subcommand.ensures above
    c.in_ok-replay_command.ensures
    refl in
    IfOk-weaker c.subcommand-2.result _ _ (λ r added. app_of-added_subcommand _ _ r _ live_app added replay
    c.in_ok-live_command.ensures refl) c.subcommand-2.ensures

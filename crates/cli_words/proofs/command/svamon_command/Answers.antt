use Rattle.std.proofs.Common.{rules, ◌≡◌, ◌∙◌, ap}
use Rattle.std.proofs.lemmas.Result.{IfOk-weaker}
use Rattle.clap.specs.Words.{App, app_of, with_subcommand}
use Rattle.cli_words.specs.Words.{svamon_top, check_app, build_app, verify_app, run_app, judge_app, rules_app}
use Rattle.cli_words.specs.Words.{upgrade_app, explain_app, lint_app, names_app, import_app}
use Rattle.cli_words.proofs.command.svamon_command.Goals as goal

-- a command with all of svamon's commands
abbrev with_all : App → App
with_all a =
    let three = with_subcommand (with_subcommand (with_subcommand a check_app.top) build_app.top) verify_app.top in
    let six = with_subcommand (with_subcommand (with_subcommand three run_app.top) judge_app.top) rules_app.top in
    let nine = with_subcommand (with_subcommand (with_subcommand six upgrade_app.top) explain_app.top) lint_app.top in
    with_subcommand (with_subcommand nine names_app.top) import_app.top

pub returns : goal.returns
returns c =
    let top : app_of c.subcommand_required-svamon.result ≡ svamon_top = search rules in
    IfOk-weaker c.with_subcommands.result _ _ (λ r h. h ∙ ap with_all top) c.with_subcommands.ensures

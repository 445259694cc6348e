use Rattle.std.proofs.Common.{refl}
use Rattle.std.proofs.lemmas.Result.{IfOk-weaker}
use Rattle.clap.specs.Words.{new_app}
use Rattle.cli_words.proofs.CommandLaws.{one_more, stays_plain}
use Rattle.cli_words.proofs.command.with_subcommand.Goals as goal

pub returns : goal.returns
returns c =
    IfOk-weaker c.subcommand.result _ _
    (λ r h. one_more _ _ r _ _ h refl c.in_ok-command_of.ensures
    (stays_plain c.args.row.now.options.now (new_app c.args.row.now.name.now) refl))
    c.subcommand.ensures

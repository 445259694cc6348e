use Rattle.std.proofs.Common.{◌∙◌, sym, ap, option_map}
use Rattle.std.proofs.lemmas.Result.{IfOk-weaker}
use Rattle.clap.specs.Words.{found_of, rows_of}
use Rattle.cli_words.proofs.CommandLaws.{entered}
use Rattle.cli_words.proofs.read.request_of.Goals as goal

pub returns-in-Some : goal.returns-in-Some
returns-in-Some c =
    let arm = c.in-Some in
    IfOk-weaker c.named_request.result _ _
    (entered c.args.matches.now arm.name.now (rows_of (found_of arm.options.now))
    (sym c.subcommand.ensures.name ∙ ap (option_map (λ p. p.0.now)) arm.is)
    (sym c.subcommand.ensures.rows ∙ ap (option_map (λ p. rows_of (found_of p.1.now))) arm.is))
    c.named_request.ensures

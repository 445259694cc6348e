use Rattle.std.proofs.Common.{map}
use Rattle.clap.specs.Words.{app_of}
use Rattle.cli_words.proofs.CommandLaws.{asked}
use Rattle.cli_words.proofs.read.read_words.Goals as goal

pub returns : goal.returns
returns c =
    asked (app_of c.in_ok-svamon_command.field-0) (map (λ w. w.now) c.args.words.now) c.in_ok-matches.matches _
    c.in_ok-matches.ensures.matches c.in_ok-svamon_command.ensures c.in_ok-request_of.ensures

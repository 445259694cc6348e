use Rattle.std.proofs.Common.{refl}
use Rattle.std.proofs.lemmas.Result.{IfOk-weaker}
use Rattle.cli_words.proofs.CommandLaws.{one_option}
use Rattle.cli_words.proofs.command.with_option.Goals as goal

pub returns : goal.returns
returns c =
    IfOk-weaker c.arg.result _ _
    (λ r h. one_option _ r _ _ _ h refl c.in_ok-option_of.ensures.rule c.in_ok-option_of.ensures.local) c.arg.ensures

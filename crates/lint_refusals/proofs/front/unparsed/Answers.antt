use Rattle.lint_refusals.specs.Refused.{unparsed}
use Rattle.lint_refusals.proofs.front.unparsed.Goals as goal

pub returns : goal.returns
returns c =
    unparsed c.args.fault c.args.tokens.now c.requires.cut c.requires.refused c.in_ok-parse_refusal.ensures

use Rattle.std.proofs.Common.{◌∙◌, sym}
use Rattle.lint_refusals.specs.Alone.{apart, misspelt}
use Rattle.lint_refusals.specs.Refused.{unparsed}
use Rattle.lint_refusals.proofs.alone.misspelt.Goals as goal

pub returns-then-is_decided : goal.returns-then-is_decided
returns-then-is_decided c =
    misspelt c.args.fault c.args.tokens.now c.requires.cut (sym c.is_decided.ensures ∙ c.if-is_decided.true)
    c.requires.refused c.in_ok-refusal.ensures

pub returns-then-is_inside : goal.returns-then-is_inside
returns-then-is_inside c =
    apart c.args.tokens.now c.requires.cut (c.is_apart.ensures c.if-is_apart.true)
    (sym c.is_inside.ensures ∙ c.if-is_inside.true)
    (unparsed c.args.fault c.args.tokens.now c.requires.cut c.requires.refused c.in_ok-refusal.ensures)

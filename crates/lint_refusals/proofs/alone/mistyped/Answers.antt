use Rattle.std.proofs.Common.{◌∙◌, sym}
use Rattle.parser_grammar.specs.Views.{items_of}
use Rattle.lint_refusals.specs.Alone.{apart}
use Rattle.lint_refusals.specs.Refused.{mistyped}
use Rattle.lint_refusals.proofs.alone.mistyped.Goals as goal

pub returns-then-is_inside : goal.returns-then-is_inside
returns-then-is_inside c =
    apart c.args.tokens.now c.requires.cut (c.is_apart.ensures c.if-not-is_apart.false)
    (sym c.is_inside.ensures ∙ c.if-is_inside.true)
    (mistyped c.in-Err.fault c.args.tokens.now (items_of c.args.file.now) c.requires c.in-Err.ensures.err
    c.in_ok-refusal-in-Err.ensures)

use Rattle.std.proofs.Common.{sym, ◌∙◌}
use Rattle.parser.proofs.Steps.{infix-none, infix-other, infix-led}
use Rattle.parser.proofs.read.left_operator.Goals as goal

pub returns-in_default-infix_of-clause-sign : goal.returns-in_default-infix_of-clause-sign
returns-in_default-infix_of-clause-sign c = infix-none _ _ _ _ c.in-Some.ensures c.in_default-infix_of.ensures

pub returns-then-level-clause-sign : goal.returns-then-level-clause-sign
returns-then-level-clause-sign c =
    infix-led _ _ _ _ _ c.in-Some.ensures c.in-Some-infix_of.ensures
    (sym c.level.ensures ∙ c.if-level.true)

pub returns-clause-sign : goal.returns-clause-sign
returns-clause-sign c =
    infix-other _ _ _ _ _ c.in-Some.ensures c.in-Some-infix_of.ensures
    (λ k. c.if-level.false (c.level.ensures ∙ k))

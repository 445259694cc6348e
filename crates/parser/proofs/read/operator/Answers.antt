use Rattle.std.proofs.Common.{sym, ◌∙◌}
use Rattle.parser.proofs.Steps.{operator-yes, operator-no}
use Rattle.parser.proofs.read.operator.Goals as goal

pub returns-then-precedence_of-level-clause-token : goal.returns-then-precedence_of-level-clause-token
returns-then-precedence_of-level-clause-token c =
    operator-yes _ _ _ _ c.in-Some.ensures (sym c.precedence_of.ensures ∙ c.if-precedence_of-level.true)

pub returns-clause-token : goal.returns-clause-token
returns-clause-token c =
    operator-no _ _ _ _ c.in-Some.ensures (λ k. c.if-precedence_of-level.false (c.precedence_of.ensures ∙ k))

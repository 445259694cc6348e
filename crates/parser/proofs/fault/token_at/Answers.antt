use Rattle.std.proofs.Common.{List, subst}
use Rattle.std.specs.List.{Contains}
use Rattle.lexer.specs.declared.token.Token.{Token}
use Rattle.parser.proofs.FaultLaws.{contains-behind}
use Rattle.parser.proofs.fault.token_at.Goals as goal

pub behind-preserved : goal.behind-preserved
behind-preserved c =
    λ t h. c.behind.invariant t
    (contains-behind _ _ _ t c.in-Some.ensures (subst (λ (ts : List Token). Contains ts t) c.same-left.ensures h))

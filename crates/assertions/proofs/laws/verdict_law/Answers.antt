use Rattle.std.proofs.Common.{sym, ◌∙◌}
use Rattle.assertions.specs.declared.sequence.Boolean.{Boolean}
use Rattle.assertions.proofs.Verdicts.{IsVerdict-verdict, IsVerdict-only}
use Rattle.assertions.proofs.laws.verdict_law.Goals as goal

pub returns-clause-some : goal.returns-clause-some
returns-clause-some c = IsVerdict-verdict Boolean

pub returns-clause-one : goal.returns-clause-one
returns-clause-one c = λ value off r s end c v w is also.
    sym (IsVerdict-only Boolean value off r s end c v is) ∙ IsVerdict-only Boolean value off r s end c w also

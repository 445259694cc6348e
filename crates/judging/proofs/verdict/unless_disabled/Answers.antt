use Rattle.std.proofs.Common.{sym, ap}
use Rattle.assertions.specs.Attempts.{disabled_or}
use Rattle.assertions.proofs.Quantifiers.{first_true-never}
use Rattle.judging.proofs.verdict.unless_disabled.Goals as goal

pub returns-in_default : goal.returns-in_default
returns-in_default c =
    rw c.in_default.is (ap (λ o. disabled_or o c.args.otherwise) (sym (first_true-never c.args.start c.args.end)))

use Rattle.std.proofs.Common.{ap, ◌∙◌}
use Rattle.assertions.specs.Attempts.{disabled_or}
use Rattle.assertions.specs.Quantifiers.{first_true}
use Rattle.judging.specs.Tables.{off_at}
use Rattle.judging.proofs.verdict.verdict_from.Goals as goal

pub returns-in-None : goal.returns-in-None
returns-in-None c = rw c.in-None.is c.unless_disabled.ensures

pub returns-in-Some : goal.returns-in-Some
returns-in-Some c =
    rw c.in-Some.is
    (c.unless_disabled-in-Some.ensures
    ∙ ap (disabled_or
    (first_true c.args.start c.in-Some.below
    (off_at c.args.course.now.seen.values c.args.assertion.now.disabling c.args.start))) c.verdict_at.ensures)

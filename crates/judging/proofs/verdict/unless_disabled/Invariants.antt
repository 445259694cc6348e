use Rattle.std.proofs.Common.{◌≡◌}
use Rattle.assertions.specs.Quantifiers.{first_true}
use Rattle.judging.specs.Tables.{off_at}
use Rattle.judging.proofs.verdict.unless_disabled.Given as goal

-- what is left decides
abbrev pub invariant-loop-tick : goal.invariant-loop-tick
invariant-loop-tick l =
    first_true l.tick l.end (off_at l.seen.values l.assertion.disabling l.start)
    ≡ first_true l.start l.end (off_at l.seen.values l.assertion.disabling l.start)

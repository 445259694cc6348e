use Rattle.std.proofs.Common.{◌≡◌}
use Rattle.assertions.specs.Quantifiers.{some_in}
use Rattle.judging.specs.Tables.{marks}
use Rattle.judging.proofs.row.some_mark.Given as goal

-- what is left decides
abbrev pub invariant-loop-place : goal.invariant-loop-place
invariant-loop-place l = some_in l.place l.end (marks l.row) ≡ some_in l.from l.end (marks l.row)

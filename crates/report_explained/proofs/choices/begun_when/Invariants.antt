use Rattle.std.proofs.Common.{◌≡◌, take}
use Rattle.std.specs.Prelude.{filter}
use Rattle.report_explained.specs.Chosen.{begins_at}
use Rattle.report_explained.proofs.choices.begun_when.Given as goal

-- those of the failures so far
abbrev pub invariant-loop-failure : goal.invariant-loop-failure
invariant-loop-failure l =
    l.begun.items ≡ filter (begins_at l.wanted.start) (take l.failure-index l.fails)

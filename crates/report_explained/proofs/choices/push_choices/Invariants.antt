use Rattle.std.proofs.Common.{◌≡◌, ◌++◌, drop, map}
use Rattle.report_explained.specs.Chosen.{choice_at}
use Rattle.report_explained.proofs.choices.push_choices.Given as goal

-- the failures that are left still come
abbrev pub invariant-loop-failure : goal.invariant-loop-failure
invariant-loop-failure l =
    l.choices.items ++ map (choice_at l.place) (drop l.failure-index l.fails)
    ≡ l.fn.choices.items ++ map (choice_at l.place) l.fails

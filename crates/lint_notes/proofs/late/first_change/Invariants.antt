use Rattle.std.proofs.Common.{◌≡◌, drop}
use Rattle.std.specs.List.{list_any}
use Rattle.lint_notes.specs.Late.{has_change}
use Rattle.lint_notes.proofs.late.first_change.Given as goal

-- what the steps so far leave to the others
abbrev pub invariant-loop-step : goal.invariant-loop-step
invariant-loop-step l =
    list_any (has_change l.code) l.steps
    ≡ list_any (has_change l.code) (drop l.step-index l.steps)

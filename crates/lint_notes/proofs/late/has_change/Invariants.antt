use Rattle.std.proofs.Common.{◌≡◌, drop}
use Rattle.std.specs.Prelude.{◌==◌}
use Rattle.std.specs.List.{list_any}
use Rattle.lint_notes.proofs.late.has_change.Given as goal

-- what the changes so far leave to the others
abbrev pub invariant-loop-change : goal.invariant-loop-change
invariant-loop-change l =
    list_any (λ c. c.code == l.code) l.changes
    ≡ list_any (λ c. c.code == l.code) (drop l.change-index l.changes)

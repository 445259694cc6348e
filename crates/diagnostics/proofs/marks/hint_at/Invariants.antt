use Rattle.std.proofs.Common.{◌≡◌, drop}
use Rattle.std.specs.List.{find}
use Rattle.diagnostics.specs.Hints.{stands_before}
use Rattle.diagnostics.proofs.marks.hint_at.Given as goal

-- the row that is looked for is not among those so far
abbrev pub invariant-loop-mark : goal.invariant-loop-mark
invariant-loop-mark l =
    find (λ row. stands_before l.text l.at row.0.now row.1) l.rows
    ≡ find (λ row. stands_before l.text l.at row.0.now row.1) (drop l.mark-index l.rows)

use Rattle.std.proofs.Common.{◌≡◌, drop}
use Rattle.std.specs.List.{find}
use Rattle.std.specs.Str.{bytes_eq}
use Rattle.diagnostics.proofs.hints.hint_beside.Given as goal

-- the row that is looked for is not among those so far
abbrev pub invariant-loop-other : goal.invariant-loop-other
invariant-loop-other l =
    find (λ row. bytes_eq row.0.now l.word) l.rows
    ≡ find (λ row. bytes_eq row.0.now l.word) (drop l.other-index l.rows)

use Rattle.std.proofs.Common.{◌≡◌, drop}
use Rattle.lint_notes.specs.Words.{is_among}
use Rattle.lint_notes.specs.Told.{late_paths}
use Rattle.lint_notes.proofs.names.late_of.Given as goal

-- what those so far leave to the others
abbrev pub invariant-loop-one : goal.invariant-loop-one
invariant-loop-one l =
    is_among (late_paths l.late) l.path
    ≡ is_among (late_paths (drop l.one-index l.late)) l.path

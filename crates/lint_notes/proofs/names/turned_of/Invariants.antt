use Rattle.std.proofs.Common.{◌≡◌, drop}
use Rattle.lint_notes.specs.Words.{is_among}
use Rattle.lint_notes.specs.Told.{turned_paths}
use Rattle.lint_notes.proofs.names.turned_of.Given as goal

-- what those so far leave to the others
abbrev pub invariant-loop-one : goal.invariant-loop-one
invariant-loop-one l =
    is_among (turned_paths l.turned) l.path
    ≡ is_among (turned_paths (drop l.one-index l.turned)) l.path

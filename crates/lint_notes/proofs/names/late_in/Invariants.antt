use Rattle.std.proofs.Common.{◌≡◌, drop}
use Rattle.std.specs.List.{list_any}
use Rattle.lint_notes.specs.Words.{names_one}
use Rattle.lint_notes.specs.Told.{late_paths}
use Rattle.lint_notes.proofs.names.late_in.Given as goal

-- what those so far leave to the others
abbrev pub invariant-loop-token : goal.invariant-loop-token
invariant-loop-token l =
    list_any (names_one l.text (late_paths l.late)) l.tokens
    ≡ list_any (names_one l.text (late_paths l.late)) (drop l.token-index l.tokens)

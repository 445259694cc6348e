use Rattle.std.proofs.Common.{◌≡◌, ◌+◌, ◌≤◌, drop}
use Rattle.lint_notes.specs.Words.{closing}
use Rattle.lint_notes.proofs.words.closing.Given as goal

-- what the tokens so far leave to the others
abbrev pub invariant-loop-place : goal.invariant-loop-place
invariant-loop-place l =
    (l.deep ≤ l.place) × (closing 0 l.tokens ≡ l.place + closing l.deep (drop l.place l.tokens))

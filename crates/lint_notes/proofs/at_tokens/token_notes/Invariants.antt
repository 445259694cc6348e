use Rattle.std.proofs.Common.{◌≡◌, ◌++◌, drop, map}
use Rattle.lint_notes.specs.Told.{key_of, token_keys}
use Rattle.lint_notes.proofs.at_tokens.token_notes.Given as goal

-- the notes of the tokens that are left still come
abbrev pub invariant-loop-place : goal.invariant-loop-place
invariant-loop-place l =
    map key_of l.notes.items ++ token_keys l.text l.facts (drop l.place l.tokens)
    ≡ token_keys l.text l.facts l.tokens

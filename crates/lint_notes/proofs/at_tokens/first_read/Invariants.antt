use Rattle.std.proofs.Common.{◌≡◌, drop}
use Rattle.lint_notes.specs.Told.{first_read}
use Rattle.lint_notes.proofs.at_tokens.first_read.Given as goal

-- the path is not named by the tokens so far
abbrev pub invariant-loop-token : goal.invariant-loop-token
invariant-loop-token l =
    first_read l.text l.path l.tokens ≡ first_read l.text l.path (drop l.token-index l.tokens)

use Rattle.std.proofs.Common.{◌≡◌, drop}
use Rattle.lint_refusals.specs.Alone.{has_word}
use Rattle.lint_refusals.proofs.alone.has_word.Given as goal

-- what the tokens so far leave to the others
abbrev pub invariant-loop-token : goal.invariant-loop-token
invariant-loop-token l = has_word l.word l.tokens ≡ has_word l.word (drop l.token-index l.tokens)

use Rattle.std.proofs.Common.{◌≡◌, drop}
use Rattle.std.specs.List.{list_any}
use Rattle.lint_refusals.specs.Verbs.{is_verb}
use Rattle.lint_refusals.proofs.front.has_verb.Given as goal

-- what the tokens so far leave to the others
abbrev pub invariant-loop-token : goal.invariant-loop-token
invariant-loop-token l = list_any is_verb l.tokens ≡ list_any is_verb (drop l.token-index l.tokens)

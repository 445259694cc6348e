use Rattle.std.proofs.Common.{◌≡◌, ◌++◌, false, map, drop, string_bytes}
use Rattle.lexer.specs.Cutting.{cut_of}
use Rattle.lint_refusals.specs.Alone.{names_after}
use Rattle.lint_refusals.proofs.declared.names_in.Given as goal

-- the names so far, and those that the other tokens declare
abbrev pub invariant-loop-token : goal.invariant-loop-token
invariant-loop-token l =
    map string_bytes l.names.items ++ names_after l.declares (map cut_of (drop l.token-index l.tokens))
    ≡ names_after false (map cut_of l.tokens)

use Rattle.std.proofs.Common.{◌≡◌, map, drop, string_bytes}
use Rattle.std.specs.List.{list_any}
use Rattle.std.specs.Str.{bytes_eq}
use Rattle.lint_refusals.proofs.declared.has_name.Given as goal

-- what the tokens so far leave to the others
abbrev pub invariant-loop-token : goal.invariant-loop-token
invariant-loop-token l =
    list_any (λ t. list_any (bytes_eq t.text.now) (map string_bytes l.names)) l.tokens
    ≡ list_any (λ t. list_any (bytes_eq t.text.now) (map string_bytes l.names)) (drop l.token-index l.tokens)

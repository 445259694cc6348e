use Rattle.std.proofs.Common.{◌≡◌, map, drop, string_bytes}
use Rattle.std.specs.List.{list_any}
use Rattle.std.specs.Str.{bytes_eq}
use Rattle.lint_refusals.proofs.declared.is_among.Given as goal

-- what the names so far leave to the others
abbrev pub invariant-loop-name : goal.invariant-loop-name
invariant-loop-name l =
    list_any (bytes_eq l.word) (map string_bytes l.names)
    ≡ list_any (λ name. bytes_eq l.word (string_bytes name)) (drop l.name-index l.names)

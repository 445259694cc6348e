use Rattle.std.proofs.Common.{◌≡◌, drop}
use Rattle.std.specs.Prelude.{string_bytes}
use Rattle.std.specs.List.{list_any}
use Rattle.std.specs.Str.{bytes_eq}
use Rattle.cli.proofs.explained.has_assertion.Given as goal

-- those that are left decide
abbrev pub invariant-loop-assertion : goal.invariant-loop-assertion
invariant-loop-assertion l =
    list_any (λ a. bytes_eq (string_bytes a.name) l.name) l.suite.assertions.items
    ≡ list_any (λ a. bytes_eq (string_bytes a.name) l.name) (drop l.assertion-index l.suite.assertions.items)

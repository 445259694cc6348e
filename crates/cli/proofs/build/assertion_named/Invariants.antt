use Rattle.std.proofs.Common.{◌≡◌, take, string_bytes}
use Rattle.std.specs.List.{AllByRecursion}
use Rattle.assertions.specs.declared.assertion.Assertion.{Assertion}
use Rattle.cli.proofs.build.assertion_named.Given as goal

-- no assertion so far has the name
abbrev pub invariant-loop-assertion : goal.invariant-loop-assertion
invariant-loop-assertion l =
    AllByRecursion (λ (a : Assertion). string_bytes a.name ≡ l.name → ⊥)
    (take l.assertion-index l.suite.assertions.items)

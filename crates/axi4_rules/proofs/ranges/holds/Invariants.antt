use Rattle.std.proofs.Common.{◌≡◌, drop}
use Rattle.std.specs.Prelude.{◌==◌}
use Rattle.std.specs.List.{list_any}
use Rattle.axi4_rules.proofs.ranges.holds.Given as goal

abbrev pub invariant-loop-number : goal.invariant-loop-number
invariant-loop-number l =
    list_any (λ n. n == l.wanted) l.numbers ≡ list_any (λ n. n == l.wanted) (drop l.number-index l.numbers)

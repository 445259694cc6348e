use Rattle.std.proofs.Common.{◌≡◌, drop}
use Rattle.std.specs.Prelude.{nat_lt}
use Rattle.std.specs.List.{list_all}
use Rattle.axi4_rules.proofs.ranges.are_below.Given as goal

abbrev pub invariant-loop-number : goal.invariant-loop-number
invariant-loop-number l =
    list_all (λ n. nat_lt n l.limit) l.numbers ≡ list_all (λ n. nat_lt n l.limit) (drop l.number-index l.numbers)

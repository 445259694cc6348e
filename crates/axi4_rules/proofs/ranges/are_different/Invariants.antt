use Rattle.std.proofs.Common.{◌≡◌, drop}
use Rattle.axi4_rules.specs.Ports.{are_different}
use Rattle.axi4_rules.proofs.ranges.are_different.Given as goal

abbrev pub invariant-loop-index : goal.invariant-loop-index
invariant-loop-index l = are_different l.numbers ≡ are_different (drop l.index l.numbers)

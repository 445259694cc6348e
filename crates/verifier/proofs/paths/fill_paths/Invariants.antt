use Rattle.std.proofs.Common.{◌≡◌, ◌+◌, ◌-◌, ◌≤◌, ℕ, length, drop, slice_index}
use Rattle.verifier.specs.Limits.{paths_from}
use Rattle.verifier.proofs.paths.fill_paths.Given as goal

abbrev pub invariant-flows : goal.invariant-flows
invariant-flows l =
    record {
      left : drop l.k l.paths ≡ paths_from (l.base + l.k) (drop l.k l.flows);
      long : length l.paths ≡ length l.flows;
      low : l.k ≤ length l.flows;
      few : (j : ℕ) → slice_index l.paths j ≤ length l.flows - l.k;
    }

abbrev pub decreases-flows : goal.decreases-flows
decreases-flows l = l.k

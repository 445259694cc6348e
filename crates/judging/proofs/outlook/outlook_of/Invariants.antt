use Rattle.std.proofs.Common.{◌≡◌, ℕ, ◌+◌, ◌&&◌, ◌||◌, not}
use Rattle.assertions.specs.Quantifiers.{some_in, each_in}
use Rattle.judging.specs.Tables.{marks, has_link}
use Rattle.judging.proofs.outlook.outlook_of.Given as goal

-- what stands at the ticks so far
abbrev pub invariant-loop-tick : goal.invariant-loop-tick
invariant-loop-tick l = record {
  ends : l.all.ends ≡ some_in 0 l.tick (λ (e : ℕ). marks l.ends (e + 1));
  broken : l.all.broken
      ≡ some_in 0 l.tick (λ (e : ℕ). marks l.ends (e + 1) && not (some_in e l.count (has_link l.consequents e)));
  kept : l.all.kept
      ≡ each_in 0 l.tick (λ (e : ℕ). not (marks l.ends (e + 1)) || some_in e (l.below + 1) (has_link l.consequents e));
}

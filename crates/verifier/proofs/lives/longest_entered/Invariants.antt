use Rattle.std.proofs.Common.{◌≡◌, ◌≤◌, ℕ, max, drop, slice_index}
use Rattle.verifier.specs.Limits.{longest_entered}
use Rattle.verifier.proofs.lives.longest_entered.Given as goal

abbrev pub invariant-block : goal.invariant-block
invariant-block l =
    record {
      left : max l.most (longest_entered l.next (drop l.next l.lives) (drop l.k l.block))
          ≡ longest_entered l.next (drop l.next l.lives) l.block;
      few : (m : ℕ) → ((j : ℕ) → slice_index l.lives j ≤ m) → l.most ≤ m;
    }

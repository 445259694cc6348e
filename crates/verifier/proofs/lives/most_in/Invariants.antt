use Rattle.std.proofs.Common.{◌≡◌, ◌≤◌, ℕ, max, drop, slice_index}
use Rattle.verifier.specs.Limits.{most_in}
use Rattle.verifier.proofs.lives.most_in.Given as goal

abbrev pub invariant-lives : goal.invariant-lives
invariant-lives l =
    record {
      left : max l.most (most_in l.set l.p (drop l.p l.lives)) ≡ most_in l.set 0 l.lives;
      few : (m : ℕ) → ((j : ℕ) → slice_index l.lives j ≤ m) → l.most ≤ m;
    }

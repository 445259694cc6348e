use Rattle.std.proofs.Common.{◌≡◌, ◌-◌, ◌≤◌, ℕ, length, drop, slice_index}
use Rattle.verifier.specs.Limits.{lives_from}
use Rattle.verifier.specs.Views.{blocks_of}
use Rattle.verifier.proofs.lives.fill_lives.Given as goal

abbrev pub invariant-blocks_left : goal.invariant-blocks_left
invariant-blocks_left l =
    record {
      left : drop l.k l.lives ≡ lives_from l.k (drop l.k (blocks_of l.blocks));
      long : length l.lives ≡ length l.blocks;
      low : l.k ≤ length l.blocks;
      few : (j : ℕ) → slice_index l.lives j ≤ length l.blocks - l.k;
    }

abbrev pub decreases-blocks_left : goal.decreases-blocks_left
decreases-blocks_left l = l.k

use Rattle.std.proofs.Common.{◌≡◌, ◌<◌, ℕ, map, length}
use Rattle.types.specs.Sweeps.{AreSound, Covers}
use Rattle.types.specs.Views.{draft_of}
use Rattle.types.proofs.cyclic.is_cyclic.Given as goal

abbrev pub invariant-sweeps : goal.invariant-sweeps
invariant-sweeps l =
    record {
      long : length l.marks.items ≡ length l.bodies;
      sound : AreSound (map draft_of l.bodies) l.goal l.marks.items;
      covers : (p : ℕ) → p < length l.bodies → Covers l.marks.items l.left.items p;
    }

abbrev pub decreases-sweeps : goal.decreases-sweeps
decreases-sweeps l = length l.left.items

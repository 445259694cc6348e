use Rattle.std.proofs.Common.{◌≡◌, ◌<◌, ℕ, map, length}
use Rattle.types.specs.Views.{draft_of}
use Rattle.types.specs.Entries.{IsEntryTable, Accounts}
use Rattle.types.proofs.table.resolve.Given as goal

abbrev pub invariant-sweeps : goal.invariant-sweeps
invariant-sweeps l =
    record {
      long : length l.table.items ≡ length l.bodies;
      entries : IsEntryTable (map draft_of l.bodies) l.table.items;
      accounts : (p : ℕ) → p < length l.bodies → Accounts l.table.items l.left.items p;
    }

abbrev pub decreases-sweeps : goal.decreases-sweeps
decreases-sweeps l = length l.left.items

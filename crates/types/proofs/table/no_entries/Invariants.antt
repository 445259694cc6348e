use Rattle.std.proofs.Common.{◌≡◌, ℕ, false, length}
use Rattle.types.specs.Entries.{has_entry}
use Rattle.types.proofs.table.no_entries.Given as goal

abbrev pub invariant-loop : goal.invariant-loop
invariant-loop l =
    record {
      long : length l.table.items ≡ l.counter;
      none : (p : ℕ) → has_entry l.table.items p ≡ false;
    }

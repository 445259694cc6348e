use Rattle.std.proofs.Common.{◌≡◌, ◌≤◌, ◌<◌, ◌++◌, ℕ, List, length, get_or}
use Rattle.vcd_reader.specs.declared.step.Change.{Change}
use Rattle.vcd_reader.specs.Stored.{stored_change}
use Rattle.vcd_reader.proofs.reading.move_changes.Given as goal

abbrev pub invariant-loop-place : goal.invariant-loop-place
invariant-loop-place l = record {
  moved : (front high : List ℕ) → length front ≡ l.by → (i : ℕ) (d : Change) → i < l.place
      → stored_change (front ++ high) (get_or l.changes i d) ≡ stored_change high (get_or l.fn.changes i d);
  rest : (i : ℕ) (d : Change) → l.place ≤ i → get_or l.changes i d ≡ get_or l.fn.changes i d;
}

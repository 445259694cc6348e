use Rattle.std.proofs.Common.{◌≡◌, length}
use Rattle.cycle_window.proofs.shared.zeros.Given as goal

abbrev pub invariant-loop-i : goal.invariant-loop-i
invariant-loop-i l = length l.table.items ≡ l._i

use Rattle.std.proofs.Common.{List, ℕ}
use Rattle.vcd_reader.specs.Packed.{AreKnown}
use Rattle.vcd_reader.proofs.packed.add_page.Given as goal

abbrev pub invariant-loop-i : goal.invariant-loop-i
invariant-loop-i l = (texts : List (List ℕ)) → AreKnown texts l.fn.table.items → AreKnown texts l.table.items

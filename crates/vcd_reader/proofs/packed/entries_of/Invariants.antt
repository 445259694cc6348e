use Rattle.vcd_reader.specs.Index.{codes_in}
use Rattle.vcd_reader.specs.Packed.{AreKnown}
use Rattle.vcd_reader.proofs.packed.entries_of.Given as goal

abbrev pub invariant-loop-i : goal.invariant-loop-i
invariant-loop-i l = AreKnown (codes_in l.variables) l.table.items

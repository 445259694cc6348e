use Rattle.std.proofs.Common.{take}
use Rattle.vcd_reader.specs.Index.{texts_in, IsIndex}
use Rattle.vcd_reader.proofs.places.places_of.Given as goal

abbrev pub invariant-loop-i : goal.invariant-loop-i
invariant-loop-i l = IsIndex (texts_in l.part l.scopes (take l.i l.variables)) l.places

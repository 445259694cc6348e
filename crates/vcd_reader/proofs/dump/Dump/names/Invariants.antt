use Rattle.std.proofs.Common.{◌≡◌, ◌++◌, map, drop}
use Rattle.vcd_reader.specs.Variables.{names_from}
use Rattle.vcd_reader.specs.Held.{variables_of, named_of}
use Rattle.vcd_reader.proofs.dump.Dump.names.Given as goal

abbrev pub invariant-loop-place : goal.invariant-loop-place
invariant-loop-place l =
    map named_of l.names.items ++ names_from (variables_of l.self) l.place (drop l.place (variables_of l.self))
    ≡ names_from (variables_of l.self) 0 (variables_of l.self)

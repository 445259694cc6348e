use Rattle.std.proofs.Common.{take}
use Rattle.std.specs.List.{AllByRecursion, AllZip}
use Rattle.report_programs.specs.Faults.{IsMadeOf, HasAcceptedProgram}
use Rattle.report_programs.proofs.programs.programs_of.Given as goal

-- the programs so far
abbrev pub invariant-loop-assertion : goal.invariant-loop-assertion
invariant-loop-assertion l = record {
  made : AllZip (IsMadeOf l.suite) (take l.assertion-index l.suite.assertions.items)
      l.programs.items;
  programs : AllByRecursion (HasAcceptedProgram l.suite) (take l.assertion-index l.suite.assertions.items);
}

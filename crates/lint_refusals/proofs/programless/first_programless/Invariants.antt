use Rattle.std.proofs.Common.{◌≡◌, take}
use Rattle.std.specs.List.{AllByRecursion}
use Rattle.report_programs.specs.Faults.{HasAcceptedProgram}
use Rattle.lint_refusals.proofs.programless.first_programless.Given as goal

-- the assertions so far have programs
abbrev pub invariant-loop-assertion : goal.invariant-loop-assertion
invariant-loop-assertion l =
    (l.place ≡ l.assertion-index)
    × AllByRecursion (HasAcceptedProgram l.suite) (take l.assertion-index l.suite.assertions.items)

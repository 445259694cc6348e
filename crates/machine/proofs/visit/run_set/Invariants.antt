use Rattle.bytecode_programs.specs.Views.{section_data}
use Rattle.machine.specs.Records.{made_by}
use Rattle.machine.proofs.SetLaws.{Goes}
use Rattle.machine.proofs.visit.run_set.Given as goal

-- the run goes on from the position after those that were visited
abbrev pub invariant-loop-rest : goal.invariant-loop-rest
invariant-loop-rest l =
    Goes (section_data l.section) l.atoms l.set l.fn.left l.rest (made_by l.visit) l.left

abbrev pub decreases-loop-rest : goal.decreases-loop-rest
decreases-loop-rest l = l.rest

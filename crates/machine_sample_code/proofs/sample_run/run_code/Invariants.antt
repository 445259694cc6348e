use Rattle.std.proofs.Common.{◌-◌}
use Rattle.bytecode_programs.specs.Programs.{data_of}
use Rattle.machine_sample_code.specs.Runs.{longest_run}
use Rattle.machine_sample_code.proofs.RunLaws.{IsAt}
use Rattle.machine_sample_code.proofs.sample_run.run_code.Given as goal

abbrev pub invariant-loop-next : goal.invariant-loop-next
invariant-loop-next l =
    IsAt (data_of l.program) l.ring.rows l.fn.counters l.next l.spent l.stack l.atoms l.counters

abbrev pub decreases-loop-next : goal.decreases-loop-next
decreases-loop-next l = longest_run (data_of l.program) - l.spent

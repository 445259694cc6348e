use Rattle.bytecode_programs.specs.Programs.{data_of}
use Rattle.machine_sample_code.specs.Memory.{AreRows}
use Rattle.tests_parts.proofs.outcome.run_over_rows.Given as goal

abbrev pub invariant-loop-row : goal.invariant-loop-row
invariant-loop-row l = AreRows (data_of l.program) l.widths l.ring

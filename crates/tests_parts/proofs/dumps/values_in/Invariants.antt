use Rattle.cycle_window.specs.Held.{IsWindowOf}
use Rattle.tests_parts.proofs.dumps.values_in.Given as goal

abbrev pub invariant-loop : goal.invariant-loop
invariant-loop l = IsWindowOf l.window l.dump l.clocks

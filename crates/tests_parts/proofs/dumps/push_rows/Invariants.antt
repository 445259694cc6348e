use Rattle.cycle_window.specs.Shown.{IsSameWindow}
use Rattle.tests_parts.proofs.dumps.push_rows.Given as goal

abbrev pub invariant-loop-tick : goal.invariant-loop-tick
invariant-loop-tick l = IsSameWindow l.fn.window l.window

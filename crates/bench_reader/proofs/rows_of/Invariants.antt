use Rattle.cycle_window.specs.Held.{IsWindowOf}
use Rattle.bench_reader.proofs.rows_of.Given as goal

abbrev pub invariant-loop : goal.invariant-loop
invariant-loop l = IsWindowOf l.window l.dump l.clocks

use Rattle.std.proofs.Common.{◌≡◌, length, take, map}
use Rattle.vcd_reader.specs.Dump.{Contents}
use Rattle.cycle_window.specs.Ticks.{ticks_of, row_of}
use Rattle.cycle_window.specs.Held.{places_in, clock_in, columns_in, first_in, IsOver}
use Rattle.report_suites.proofs.sampled.push_rows.Given as goal

-- the rows of the clocks so far
abbrev pub invariant-loop-clock : goal.invariant-loop-clock
invariant-loop-clock l = record {
  long : length l.rows ≡ l.clock;
  rows : (c : Contents) → IsOver l.window c
      → l.fn.rows ≡ map (row_of c (places_in (columns_in l.window)))
      (take (first_in l.window) (ticks_of c (clock_in (columns_in l.window))))
      → l.rows ≡ map (row_of c (places_in (columns_in l.window)))
      (take l.clock (ticks_of c (clock_in (columns_in l.window))));
}

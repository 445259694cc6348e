use Rattle.std.proofs.Common.{◌≡◌, ◌-◌, length, take, map}
use Rattle.vcd_reader.specs.Dump.{Contents}
use Rattle.vcd_reader.specs.Held.{HoldsContents}
use Rattle.cycle_window.specs.Ticks.{ticks_of, row_of}
use Rattle.cycle_window.specs.Held.{
  ticks_in,
  places_in,
  clock_in,
  columns_in,
  size_in,
  end_in,
  IsWindowOf,
}
use Rattle.report_suites.proofs.sampled.rows_through.Given as goal

-- the rows of the clocks up to the window's end
abbrev pub invariant-loop-alloc : goal.invariant-loop-alloc
invariant-loop-alloc l = record {
  of : IsWindowOf l.window l.dump l.clocks;
  columns : columns_in l.window ≡ l.fn.columns;
  size : size_in l.window ≡ l.fn.size;
  long : length l.rows ≡ end_in l.window;
  rows : (c : Contents) → HoldsContents l.dump c
      → l.rows ≡ map (row_of c (places_in (columns_in l.window)))
      (take (end_in l.window) (ticks_of c (clock_in (columns_in l.window))));
}

abbrev pub decreases-loop-alloc : goal.decreases-loop-alloc
decreases-loop-alloc l = length (ticks_in l.clocks) - length l.rows

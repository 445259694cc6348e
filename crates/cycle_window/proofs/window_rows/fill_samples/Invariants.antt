use Rattle.std.proofs.Common.{◌≡◌, ℕ, ◌<◌, ◌≤◌, length, get_or, take, vec_capacity}
use Rattle.vcd_reader.specs.Dump.{Contents}
use Rattle.vcd_reader.specs.Held.{HoldsContents, steps_in}
use Rattle.cycle_window.specs.Ticks.{row_of}
use Rattle.cycle_window.specs.Variables.{places}
use Rattle.cycle_window.specs.Rows.{AreAhead}
use Rattle.cycle_window.specs.Values.{numbers}
use Rattle.cycle_window.specs.Cursors.{IsCursorOf}
use Rattle.cycle_window.specs.Samples.{Each, EachTo, IsRoomKept, column_of}
use Rattle.cycle_window.proofs.window_rows.fill_samples.Given as goal

abbrev pub invariant-loop-tick : goal.invariant-loop-tick
invariant-loop-tick l = record {
  of : IsCursorOf l.dump l.variables l.cursor;
  many : length l.all.items ≡ length l.fn.all.items;
  wide : vec_capacity l.row ≡ vec_capacity l.fn.row;
  kept : EachTo (λ i. IsRoomKept) l.fn.all.items l.all.items;
  full : Each (λ i s. length (numbers s.values) ≡ l.tick-index) l.all.items;
  low : AreAhead l.fn.cursor.at (length (steps_in l.dump)) l.ticks → (n : ℕ) → l.tick-index ≤ n
      → n < length l.ticks → l.cursor.at ≤ get_or l.ticks n 0;
  rows : (c : Contents) → HoldsContents l.dump c
      → AreAhead l.fn.cursor.at (length (steps_in l.dump)) l.ticks
      → Each (λ i s.
      numbers s.values ≡ column_of (row_of c (places l.variables)) i (take l.tick-index l.ticks))
      l.all.items;
  reached : (most : ℕ) → AreAhead l.fn.cursor.at (length (steps_in l.dump)) l.ticks
      → l.fn.cursor.at ≤ most
      → ((n : ℕ) → n < length l.ticks → get_or l.ticks n 0 ≤ most) → l.cursor.at ≤ most;
}

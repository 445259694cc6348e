-- What clocks, columns and windows hold of a dump.
use Rattle.std.specs.Prelude.{◌≡◌, ℕ, List, length}
use Rattle.vcd_reader.specs.declared.dump.Dump.{Dump}
use Rattle.vcd_reader.specs.Dump.{Contents}
use Rattle.vcd_reader.specs.Held.{HoldsContents}
use Rattle.cycle_window.specs.declared.clocks.Clocks.{Clocks}
use Rattle.cycle_window.specs.declared.columns.Columns.{Columns}
use Rattle.cycle_window.specs.declared.window.Window.{Window}
use Rattle.cycle_window.specs.Picks.{picked}
use Rattle.cycle_window.specs.Variables.{places}
use Rattle.cycle_window.specs.Rows.{IsBefore}
use Rattle.cycle_window.specs.Cursors.{IsCursorOf}
use Rattle.cycle_window.specs.Ticks.{ticks_of}

-- the steps of the ticks
unfoldable pub ticks_in : Clocks → List ℕ
ticks_in k = k.ticks.items

-- the number of the clock's code
unfoldable pub code_in : Clocks → ℕ
code_in k = k.code

-- the clocks are of this dump: its ticks of their code
abbrev pub AreClocksOf : Dump → Clocks → Type 0
AreClocksOf d k = (c : Contents) → HoldsContents d c → ticks_in k ≡ ticks_of c (code_in k)

-- the columns' dump, the place of the variable of each signal, and the code of their clock
unfoldable pub dump_in : Columns → Dump
dump_in cs = cs.dump.now

unfoldable pub places_in : Columns → List ℕ
places_in cs = picked (places cs.shared.variables.items) cs.shared.picks.items

unfoldable pub clock_in : Columns → ℕ
clock_in cs = cs.code

-- the columns are of these contents: those of their dump, with a row at each tick of their clock
pub record AreColumnsOf (cs : Columns) (c : Contents) : Type 0 where
  pub many : cs.count ≡ length (ticks_of c (clock_in cs))
  pub held : HoldsContents (dump_in cs) c

unfoldable pub columns_in : Window → Columns
columns_in w = w.columns

unfoldable pub size_in : Window → ℕ
size_in w = w.size

-- the clocks of the window: from the first up to the second, which is not in it
unfoldable pub first_in : Window → ℕ
first_in w = w.first

unfoldable pub end_in : Window → ℕ
end_in w = w.end

-- the window is over these contents
unfoldable pub IsOver : Window → Contents → Type 0
IsOver w c = AreColumnsOf w.columns c

-- The dump and the clocks are those of the window's columns, and the dump is read up to the next
-- tick at most.
pub record IsWindowOf (w : Window) (d : Dump) (k : Clocks) : Type 0 where
  pub same_dump : dump_in (columns_in w) ≡ d
  pub same_clock : code_in k ≡ clock_in (columns_in w)
  pub clocks : AreClocksOf d k
  pub over : (c : Contents) → HoldsContents d c → IsOver w c
  pub cursor : IsCursorOf d w.columns.shared.variables.items w.cursor
  pub before : IsBefore d (code_in k) w.cursor.at (end_in w)

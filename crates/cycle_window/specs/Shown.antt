-- What a window is after it has shown a row.
use Rattle.std.specs.Prelude.{◌≡◌, []}
use Rattle.std.specs.Borrow.{Fml, MutBor}
use Rattle.std.specs.Io.BufRead.{Rests}
use mir.Syntax.{named}
use Rattle.vcd_reader.specs.declared.dump.Dump.{Dump}
use Rattle.vcd_reader.specs.Dump.{Contents}
use Rattle.cycle_window.specs.declared.clocks.Clocks.{Clocks}
use Rattle.cycle_window.specs.declared.window.Window.{Window}
use Rattle.cycle_window.specs.contracts.window.Window.{the_row}
use Rattle.cycle_window.specs.Held.{columns_in, size_in, first_in, end_in, IsOver, IsWindowOf}

-- it holds the same clocks of the same columns, and it is of all that it was of
pub record IsSameWindow (old new : Window) : Type 0 where
  pub columns : columns_in new ≡ columns_in old
  pub size : size_in new ≡ size_in old
  pub first : first_in new ≡ first_in old
  pub end : end_in new ≡ end_in old
  pub over : (c : Contents) → IsOver old c → IsOver new c
  pub of : (d : Dump) (k : Clocks) → IsWindowOf old d k → IsWindowOf new d k

-- the window behind the reference is the same one once the row is no longer lent
abbrev pub StaysAfter : MutBor Window → Fml
StaysAfter w = Rests (the_row (record { mir = named 0; lft = [] })) w (IsSameWindow w.now)

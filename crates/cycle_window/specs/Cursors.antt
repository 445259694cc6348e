-- How far a dump is read.
use Rattle.std.specs.Prelude.{◌≤◌, List, length}
use Rattle.vcd_reader.specs.declared.dump.Dump.{Dump}
use Rattle.vcd_reader.specs.declared.variable.VarId.{VarId}
use Rattle.vcd_reader.specs.Held.{steps_in}
use Rattle.cycle_window.specs.declared.cursor.Cursor.{Cursor}
use Rattle.cycle_window.specs.Changes.{changes_to, IsTable}
use Rattle.cycle_window.specs.Variables.{AreCodesBelow}

-- The cursor is at one of the dump's steps or after the last, and has the last changes before it.
pub record IsCursorOf (d : Dump) (vs : List VarId) (k : Cursor) : Type 0 where
  pub inside : k.at ≤ length (steps_in d)
  pub table : IsTable k.last.items (changes_to (steps_in d) k.at)
  pub wide : AreCodesBelow d vs (length k.last.items)

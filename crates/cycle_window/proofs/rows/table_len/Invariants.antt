use Rattle.std.proofs.Common.{ℕ, ◌<◌, get_or}
use Rattle.vcd_reader.specs.declared.variable.VarId.{VarId}
use Rattle.vcd_reader.specs.Variables.{code_number}
use Rattle.vcd_reader.specs.Held.{variables_of}
use Rattle.cycle_window.proofs.rows.table_len.Given as goal

abbrev pub invariant-loop-variable : goal.invariant-loop-variable
invariant-loop-variable l =
    (i : ℕ) (d : VarId) → i < l.variable-index
    → code_number (variables_of l.dump) (get_or l.variables i d).place < l.len

use Rattle.std.proofs.Common.{◌≡◌, ◌+◌, ◌++◌, ℕ, map, take, vec_len, vec_capacity}
use Rattle.vcd_reader.specs.Dump.{Contents}
use Rattle.vcd_reader.specs.Held.{HoldsContents, steps_in}
use Rattle.cycle_window.specs.Ticks.{sample}
use Rattle.cycle_window.specs.Changes.{changes_to, IsTable}
use Rattle.cycle_window.specs.Variables.{places}
use Rattle.cycle_window.proofs.rows.push_row.Given as goal

abbrev pub invariant-loop-variable : goal.invariant-loop-variable
invariant-loop-variable l = record {
  len : vec_len l.values ≡ vec_len l.fn.values + l.variable-index;
  capacity : vec_capacity l.values ≡ vec_capacity l.fn.values;
  row : (c : Contents) (k : ℕ) → HoldsContents l.dump c
      → IsTable l.last (changes_to (steps_in l.dump) k)
      → l.values.items
      ≡ l.fn.values.items ++ map (sample c k) (take l.variable-index (places l.variables));
}

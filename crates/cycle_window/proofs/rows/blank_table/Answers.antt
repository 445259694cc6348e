use Rattle.std.proofs.Common.{List, [], Option, subst, sym}
use Rattle.vcd_reader.specs.declared.step.Change.{Change}
use Rattle.cycle_window.specs.Changes.{IsTable}
use Rattle.cycle_window.proofs.LastLaws.{table-blank}
use Rattle.cycle_window.proofs.rows.blank_table.Goals as goal

pub returns-clause-table : goal.returns-clause-table
returns-clause-table c =
    subst (λ (t : List (Option Change)). IsTable t []) (sym c.loop-i.invariant)
    (table-blank c.loop-i._i)

use Rattle.std.proofs.Common.{arith}
use Rattle.cycle_window.specs.Changes.{last_of}
use Rattle.cycle_window.proofs.rows.clear_table.Goals as goal

pub returns-clause-table : goal.returns-clause-table
unfolding last_of
returns-clause-table c = λ code lt. c.loop-place.invariant.none code (omega (arith, lt, c.loop-place-test.false))

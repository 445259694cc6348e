use Rattle.std.proofs.Common.{◌≡◌, ◌++◌, drop, map}
use Rattle.report_explained.specs.Shown.{cell_at}
use Rattle.report_explained.proofs.cells.cells_of.Given as goal

-- those that are left decide
abbrev pub invariant-loop-clock : goal.invariant-loop-clock
invariant-loop-clock l =
    let read = l.read in
    let cell = cell_at read.suite.now read.assertion.now read.attempt read.rows.now l.source in
    l.cells.items ++ map cell (drop l.clock-index l.clocks) ≡ map cell l.clocks

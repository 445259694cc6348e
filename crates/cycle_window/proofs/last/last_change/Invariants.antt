use Rattle.std.proofs.Common.{◌≡◌, List, take, ◌++◌}
use Rattle.vcd_reader.specs.declared.step.Change.{Change}
use Rattle.cycle_window.specs.Changes.{last_of}
use Rattle.cycle_window.proofs.last.last_change.Given as goal

abbrev pub invariant-loop-change : goal.invariant-loop-change
invariant-loop-change l =
    (earlier : List Change) → last_of l.code earlier ≡ l.fn.before
    → l.last ≡ last_of l.code (earlier ++ take l.change-index l.changes)

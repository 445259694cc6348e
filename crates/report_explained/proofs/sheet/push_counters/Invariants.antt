use Rattle.std.proofs.Common.{◌≡◌, ◌++◌, drop, map}
use Rattle.report_explained.specs.declared.cells.RowSource.TheVariants.{Counter}
use Rattle.report_explained.proofs.sheet.push_counters.Given as goal

abbrev pub invariant-loop-place : goal.invariant-loop-place
invariant-loop-place l =
    l.sources.items ++ map Counter (drop l.place-index l.places) ≡ l.fn.sources.items ++ map Counter l.places

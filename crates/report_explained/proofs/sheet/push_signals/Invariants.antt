use Rattle.std.proofs.Common.{◌≡◌, ◌++◌, drop, map}
use Rattle.report_explained.specs.declared.cells.RowSource.TheVariants.{Signal}
use Rattle.report_explained.proofs.sheet.push_signals.Given as goal

abbrev pub invariant-loop-place : goal.invariant-loop-place
invariant-loop-place l =
    l.sources.items ++ map Signal (drop l.place-index l.places) ≡ l.fn.sources.items ++ map Signal l.places

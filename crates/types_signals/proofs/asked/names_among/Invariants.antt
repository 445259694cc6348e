use Rattle.std.proofs.Common.{◌≡◌, ℕ, List, take}
use Rattle.types_names.specs.Asked.{widths_among}
use Rattle.types_names.specs.Views.{widths_of, columns_in}
use Rattle.types_signals.proofs.asked.names_among.Given as goal

-- the paths so far, with their widths
abbrev pub invariant-loop-column : goal.invariant-loop-column
invariant-loop-column g l =
    (q : List ℕ)
    → widths_of l.names q
    ≡ widths_among (take l.column (columns_in l.asked)) (g.W.PathWidths.widths l.widths) q

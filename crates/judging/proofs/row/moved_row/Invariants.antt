use Rattle.std.proofs.Common.{◌≤◌, max}
use Rattle.judging.specs.Tables.{IsRow}
use Rattle.judging.proofs.RowLaws.{moved_below}
use Rattle.judging.proofs.row.moved_row.Given as goal

abbrev pub invariant-loop-gap : goal.invariant-loop-gap
invariant-loop-gap l = record {
  row : IsRow (moved_below l.front l.least l.gap) l.count l.row.items;
  upto : l.gap ≤ max l.end l.least;
}

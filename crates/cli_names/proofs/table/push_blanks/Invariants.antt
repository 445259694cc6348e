use Rattle.std.proofs.Common.{◌≡◌, ◌++◌}
use Rattle.cli_names.specs.Tables.{blanks}
use Rattle.cli_names.proofs.table.push_blanks.Given as goal

abbrev pub invariant-loop-more : goal.invariant-loop-more
invariant-loop-more l = l.out.items ++ blanks l.more ≡ l.initial.out.items ++ blanks l.count

abbrev pub decreases-loop-more : goal.decreases-loop-more
decreases-loop-more l = l.more

use Rattle.std.proofs.Common.{length}
use Rattle.vcd_declarations.specs.Views.{left_in}
use Rattle.lint_notes.proofs.turned.turned_names.Given as goal

abbrev pub decreases-variables : goal.decreases-variables
decreases-variables l = length (left_in l.header)

use Rattle.std.proofs.Common.{length}
use Rattle.vcd_declarations.specs.Views.{left_in}
use Rattle.lint_messages.proofs.unnamed.unnamed_in.Given as goal

abbrev pub decreases-variables : goal.decreases-variables
decreases-variables l = length (left_in l.header)

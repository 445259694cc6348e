use Rattle.diagnostics.specs.Places.{IsLineOf}
use Rattle.diagnostics.proofs.place.line_of.Given as goal

-- the line of the byte that is reached
abbrev pub invariant-loop-reached : goal.invariant-loop-reached
invariant-loop-reached l = IsLineOf l.text l.reached l.line

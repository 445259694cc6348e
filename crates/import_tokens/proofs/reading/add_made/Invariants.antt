use Rattle.import_tokens.specs.Readings.{Adds}
use Rattle.import_tokens.proofs.reading.add_made.Given as goal

abbrev pub invariant-loop-piece : goal.invariant-loop-piece
invariant-loop-piece l = Adds l.at l.fn.tokens.items l.tokens.items

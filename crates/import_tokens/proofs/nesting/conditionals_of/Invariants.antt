use Rattle.std.proofs.Common.{◌≡◌, ◌++◌, false, drop}
use Rattle.import_tokens.specs.Conditionals.{conditionals}
use Rattle.import_tokens.proofs.nesting.conditionals_of.Given as goal

abbrev pub invariant-loop-piece : goal.invariant-loop-piece
invariant-loop-piece l =
    l.found.items ++ conditionals l.defining (drop l.piece-index l.pieces) ≡ conditionals false l.pieces

use Rattle.std.proofs.Common.{take}
use Rattle.import_tokens.proofs.NestingLaws.{Walks}
use Rattle.import_tokens.proofs.nesting.nesting_among.Given as goal

abbrev pub invariant-loop-one : goal.invariant-loop-one
invariant-loop-one l = Walks (take l.one-index l.found) l.first l.around.items

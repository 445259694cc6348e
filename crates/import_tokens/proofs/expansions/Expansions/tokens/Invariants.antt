use Rattle.std.proofs.Common.{◌-◌, length}
use Rattle.import_tokens.proofs.ReadingLaws.{Stands}
use Rattle.import_tokens.proofs.expansions.Expansions.tokens.Given as goal

abbrev pub invariant-loop-index : goal.invariant-loop-index
invariant-loop-index l = Stands l.self.text.now l.pieces.items l.index l.tokens.items

abbrev pub decreases-loop-index : goal.decreases-loop-index
decreases-loop-index l = length l.pieces.items - l.index
